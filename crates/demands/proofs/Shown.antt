-- What a reader of the records sees: at every moment the last record has the output's value; so Dark and Light, which are said of
-- states, can be read off the records.
use Prim.Native.Nat.{ℕ, ◌+◌, ◌≤◌, ◌<◌}
use mathlib.Core.Bool.{Bool, true, false, cond, ◌&&◌}
use mathlib.Core.Path.{◌≡◌, refl, sym, ap, ◌∙◌}
use mathlib.Core.Logic.{◌⊎◌, inl, inr}
use mathlib.Core.List.{List, [], ◌∷◌, ◌++◌, append_assoc, append-nil}
use native.Mathlib.Omega.{arith}
use lib.Dec.{eqb, leb}
use borrow.Author.Tests.{leb-true, leb-false, le-leb, lt-leb, eqb-true, eqb-false}
use Rattle.rules.specs.declared.parameters.Params.{Params}
use Rattle.rules.specs.declared.parameters.Scene.{Scene}
use Rattle.rules.specs.declared.input.Input.{Input}
use Rattle.rules.specs.declared.state.State.{State}
use Rattle.rules.specs.declared.record.Record.{Record}
use Rattle.rules.specs.Inputs.{kind}
use Rattle.rules.specs.Phases.{output}
use Rattle.rules.specs.Status.{value, attributes, record_of, by_itself, same_status, written}
use Rattle.rules.specs.Steps.{fresh, clock_move, step, fired, Moves, rest, fire}
use Rattle.rules.specs.Lists.{Cue, cue, plays, plays_to, play_list}
use Rattle.rules.specs.Promises.{Rises, state_at, Taken, DarkPromise, NotBefore, turn_after, LightDue, StrongLightPromise, shown_at, DarkShown, LitRecord, records_before, records_from, LightShown, shown_before, LightStamped}
use Rattle.rules.specs.Readings.{cues}
use Rattle.rules.specs.Files.{end_time, read_file, params_in, scenes_in}
use Rattle.rules.specs.Runs.{play_file}
use Rattle.base.proofs.Tests.{both, cond_case, by_order}
use Rattle.rules.proofs.Laws.Soundness.{step_clock}
use Rattle.rules.proofs.Laws.Timers.{clock_moves, moves_compose}
use Rattle.rules.proofs.Laws.Lists.{plays_to_append, plays_to_next}
use Rattle.rules.proofs.Laws.Moments.{at_case, at_the_end, rises_from}
use Rattle.rules.proofs.Promises.Light.{a_lit_lamp_stays_lit}
use Rattle.demands.proofs.EveryFile.{list_rises, has_some_time, dark_of_every_accepted_file, strong_light_of_every_accepted_file}
use Rattle.rules.proofs.Promises.Stamps.{StampedFrom, stamped_first, move_from, step_records, moved_on_time, from_an_input_on}

-- ---- what records show

shown_append : (t v : ℕ) (k l : List Record) → shown_at t v (k ++ l) ≡ shown_at t (shown_at t v k) l
unfolding shown_at
shown_append t v [] l = refl
shown_append t v (r ∷ k) l = shown_append t (cond (leb r.stamp t) r.value v) k l

-- later records show nothing yet
shown_later : (t u v : ℕ) (l : List Record) → t < u → StampedFrom u l → shown_at t v l ≡ v
unfolding shown_at
shown_later t u v [] h f = refl
shown_later t u v (r ∷ l) h f = simp (lt-leb r.stamp t (omega (arith, f.0))) (shown_later t u v l h f.1)

lit_is_255 : (s : State) → output s.phase ≡ true → value s ≡ 255
unfolding value
lit_is_255 s lit = rw lit

lit_where_255 : (s : State) → value s ≡ 255 → output s.phase ≡ true
unfolding value
lit_where_255 s = by (output s.phase)
  where
    by : (b : Bool) → ◌≡◌ {A = ℕ} (cond b 255 0) 255 → b ≡ true
    by true e = refl
    by false e = absurd (omega arith)

-- a change is recorded when it shows, so that the value follows the state
shown_written : (t cause : ℕ) (before after : State) → after.clock ≤ t → shown_at t (value before) (written cause before after) ≡ value after
unfolding shown_at written same_status record_of
shown_written t cause before after h =
    cond_case (λ (l : List Record). shown_at t (value before) l ≡ value after) (eqb (value before) (value after) && eqb (attributes before) (attributes after)) [] _
    (λ same. eqb-true _ _ (both (eqb (value before) (value after)) _ same).0)
    (λ differs. simp (le-leb after.clock t h))

-- one part of the records after another, from value to value
shown_then : (t u v w : ℕ) (k l : List Record) → shown_at t u k ≡ v → shown_at t v l ≡ w → shown_at t u (k ++ l) ≡ w
shown_then t u v w k l e f = shown_append t u k l ∙ ap (λ (x : ℕ). shown_at t x l) e ∙ f

shown_moves : (t : ℕ) {u : ℕ} {s x : State} {l : List Record} → u ≤ t → Moves u s x l → shown_at t (value s) l ≡ value x
shown_moves t h (rest q) = unfold shown_at value in refl
shown_moves t {s = s} {x} h (fire {l = l} d e past m) =
    shown_then t (value s) (value (fired s d)) (value x) (written by_itself s (fired s d)) l (shown_written t by_itself s (fired s d) (omega arith)) (shown_moves t h m)

shown_move : (t u : ℕ) (s : State) → u ≤ t → shown_at t (value s) (clock_move s u).records ≡ value (clock_move s u).state
shown_move t u s h = shown_moves t h (clock_moves s u)

-- a move that goes on past t has shown by then what a move to t shows
shown_move_past : (t u : ℕ) (s : State) → t ≤ u → shown_at t (value s) (clock_move s u).records ≡ value (clock_move s t).state
shown_move_past t u s h =
    let there : State = (clock_move s t).state in
    rw (moves_compose s t u h).1
    (shown_then t (value s) (value there) (value there) (clock_move s t).records (clock_move there u).records (shown_move t t s (omega arith))
    (shown_later t (t + 1) (value there) (clock_move there u).records (omega arith) (move_from (t + 1) u there (moved_on_time s t))))

shown_step : (t u : ℕ) (s : State) (i : Input) → u ≤ t → shown_at t (value s) (step s i u).records ≡ value (step s i u).state
shown_step t u s i h =
    let met : State = (clock_move s u).state in
    let left : State = (step s i u).state in
    rw (step_records s i u)
    (shown_then t (value s) (value met) (value left) (clock_move s u).records (written (kind i) met left) (shown_move t u s h)
    (shown_written t (kind i) met left (rw (step_clock s i u) h)))

-- ---- the last record shows the output

-- the start record shows, whatever stood before it
shown_start : (t v : ℕ) (p : Params) (scenes : List Scene) (l : List Record) → shown_at t v (record_of by_itself (fresh p scenes) ∷ l) ≡ shown_at t (value (fresh p scenes)) l
unfolding shown_at record_of fresh
shown_start t v p scenes l = simp (le-leb 0 t (omega arith))

-- before the next input the timers alone have shown
shown_waiting : (t u end : ℕ) (i : Input) (later : List Cue) (s : State) → t < u → Rises u later end → shown_at t (value s) (plays_to end (cue u i ∷ later) s).records ≡ value (clock_move s t).state
shown_waiting t u end i later s wait r =
    let met : State = (clock_move s u).state in
    let left : State = (step s i u).state in
    let v : ℕ = value (clock_move s t).state in
    let own : List Record = written (kind i) met left in
    let rest : List Record = (plays_to end later left).records in
    rw (plays_to_next end u i later s, step_records s i u, append_assoc)
    (shown_then t (value s) v v (clock_move s u).records (own ++ rest) (shown_move_past t u s (omega arith))
    (shown_later t u v (own ++ rest) wait (from_an_input_on u end i later s r)))

-- from any state on
shown_plays_to : (t last end : ℕ) (list : List Cue) (s : State) → t ≤ end → Rises last list end → shown_at t (value s) (plays_to end list s).records ≡ value (state_at t list s)
shown_plays_to t last end [] s h r = rw (at_the_end t s) (unfold plays_to plays in shown_move_past t end s h)
shown_plays_to t last end (cue u i ∷ later) s h r =
    let left : State = (step s i u).state in
    at_case (λ (x : State). shown_at t (value s) (plays_to end (cue u i ∷ later) s).records ≡ value x) t u i later s
    (λ past. rw (plays_to_next end u i later s)
    (shown_then t (value s) (value left) _ (step s i u).records (plays_to end later left).records (shown_step t u s i past) (shown_plays_to t u end later left h r.1)))
    (λ wait. shown_waiting t u end i later s wait r.1)

pub the_last_record_shows_the_output : (p : Params) (scenes : List Scene) (list : List Cue) (end t v : ℕ) → Rises 0 list end → t ≤ end →
    shown_at t v (play_list p scenes list end).records ≡ value (state_at t list (fresh p scenes))
unfolding play_list
the_last_record_shows_the_output p scenes list end t v r h = shown_start t v p scenes _ ∙ shown_plays_to t 0 end list (fresh p scenes) h r

-- ---- Dark

pub dark_shown : (p : Params) (scenes : List Scene) (list : List Cue) (end : ℕ) → Rises 0 list end → DarkPromise p scenes list end → DarkShown p scenes list end (play_list p scenes list end).records
unfolding value
dark_shown p scenes list end r dark t due = the_last_record_shows_the_output p scenes list end t 255 r due.reached ∙ rw (dark t due)

-- ---- the records of a run on both sides of an input

pub records_split : (p : Params) (scenes : List Scene) (before : List Cue) (a : ℕ) (i : Input) (later : List Cue) (end : ℕ) →
    (play_list p scenes (before ++ (cue a i ∷ later)) end).records ≡ records_before p scenes before a ++ records_from end (turn_after p scenes before a i) later
unfolding play_list records_before records_from
records_split p scenes before a i later end =
    let s : State = (plays before (fresh p scenes)).state in
    rw (plays_to_append end before (cue a i ∷ later) (fresh p scenes), plays_to_next end a i later s, step_records s i a) (simp append_assoc)

-- a list that rises does so up to any of its inputs
rises_before : (last end : ℕ) (before : List Cue) (a : ℕ) (i : Input) (later : List Cue) → Rises last (before ++ (cue a i ∷ later)) end → Rises last before a
rises_before last end [] a i later r = r.0
rises_before last end (cue u j ∷ before) a i later r = (r.0, rises_before u end before a i later r.1)

-- up to the moment that playing has reached
rises_reached : (last m end : ℕ) (acted next : List Cue) (s : State) → s.clock ≡ last → Rises last (acted ++ next) end → (plays acted s).state.clock ≤ m → Rises last acted m
unfolding plays
rises_reached last m end [] next s there r h = omega arith
rises_reached last m end (cue u i ∷ acted) next s there r h = (r.0, rises_reached u m end acted next (step s i u).state (step_clock s i u) r.1 h)

rises_ends : (last end : ℕ) (list : List Cue) → Rises last list end → last ≤ end
rises_ends last end [] r = r
rises_ends last end (cue u i ∷ later) r = omega (arith, rises_ends u end later r.1, r.0)

-- what has been played by t
shown_plays : (t last : ℕ) (list : List Cue) (s : State) → Rises last list t → shown_at t (value s) (plays list s).records ≡ value (plays list s).state
unfolding plays
shown_plays t last [] s r = unfold shown_at in refl
shown_plays t last (cue u i ∷ later) s r =
    let left : State = (step s i u).state in
    shown_then t (value s) (value left) _ (step s i u).records (plays later left).records (shown_step t u s i (rises_ends u t later r.1)) (shown_plays t u later left r.1)

-- before an input acts, the records show the state that it meets
shown_before_lem : (p : Params) (scenes : List Scene) (before : List Cue) (a : ℕ) (i : Input) → Rises 0 before a → shown_at a 0 (records_before p scenes before a) ≡ value (turn_after p scenes before a i).met
unfolding records_before
shown_before_lem p scenes before a i r =
    let s : State = (plays before (fresh p scenes)).state in
    shown_start a 0 p scenes _
    ∙ shown_then a (value (fresh p scenes)) (value s) _ (plays before (fresh p scenes)).records (clock_move s a).records (shown_plays a 0 before (fresh p scenes) r) (shown_move a a s (omega arith))

-- the input and all that follows it are stamped from then on
records_from_then : (end a : ℕ) (p : Params) (scenes : List Scene) (before : List Cue) (i : Input) (later : List Cue) → Rises a later end → StampedFrom a (records_from end (turn_after p scenes before a i) later)
unfolding records_from
records_from_then end a p scenes before i later r = from_an_input_on a end i later (plays before (fresh p scenes)).state r

-- what comes next first runs the timers due by m
waiting_records : (m end : ℕ) (next : List Cue) (s : State) → NotBefore m next end → (rest : List Record) × ((plays_to end next s).records ≡ (clock_move s m).records ++ rest)
waiting_records m end [] s h = ((clock_move (clock_move s m).state end).records, unfold plays_to plays in (moves_compose s m end h).1)
waiting_records m end (cue u i ∷ later) s h =
    let left : State = (step s i u).state in (
      (clock_move (clock_move s m).state u).records ++ (written (kind i) (clock_move s u).state left ++ (plays_to end later left).records),
      rw (plays_to_next end u i later s, step_records s i u, (moves_compose s m u h).1) (simp append_assoc),
    )

-- ---- Light

-- a lit record of some of the records is one of all, and one by m is one by any later moment
lit_among : (a m z : ℕ) (early l late : List Record) → m ≤ z → LitRecord a m l → LitRecord a z (early ++ (l ++ late))
lit_among a m z early l late h x =
    record {
      earlier = early ++ x.earlier;
      lit = x.lit;
      later = x.later ++ late;
      split = rw (← x.split) (simp append_assoc);
      from = x.from;
      until = omega (arith, x.until);
      shines = x.shines;
    }

lit_later : (a m z : ℕ) (early l : List Record) → m ≤ z → LitRecord a m l → LitRecord a z (early ++ l)
lit_later a m z early l h x = rw append-nil at (lit_among a m z early l [] h x)

-- where 255 is shown at last, it was shown at first or a record brought it
shown_or_lit : (a m v : ℕ) (l : List Record) → StampedFrom a l → shown_at m v l ≡ 255 → (v ≡ 255) ⊎ LitRecord a m l
unfolding shown_at
shown_or_lit a m v [] f e = inl e
shown_or_lit a m v (r ∷ l) f e =
    elim (shown_or_lit a m (cond (leb r.stamp m) r.value v) l f.1 e) [
      | inl first ↦
          cond_case (λ (w : ℕ). w ≡ 255 → (v ≡ 255) ⊎ LitRecord a m (r ∷ l)) (leb r.stamp m) r.value v
          (λ here shines. inr (record { earlier = []; lit = r; later = l; split = refl; from = f.0; until = leb-true _ _ here; shines = shines }))
          (λ past was. inl was) first
      | inr x ↦ inr (lit_later a m m (r ∷ []) l (omega arith) x)
    ]

-- the records up to a moment of light: those given first, then those of the cues that have acted and of the timers
up_to_light : (a m v end : ℕ) (own : List Record) (acted next : List Cue) (s : State) → shown_at m v own ≡ value s → Rises a acted m → NotBefore m next end →
    StampedFrom a (own ++ (plays_to end (acted ++ next) s).records) → output (clock_move (plays acted s).state m).state.phase ≡ true →
    (v ≡ 255) ⊎ LitRecord a m (own ++ (plays_to end (acted ++ next) s).records)
up_to_light a m v end own acted next s first r waiting stamped lit =
    let reached : State = (plays acted s).state in
    let rest = waiting_records m end next reached waiting in
    let shown : List Record = own ++ ((plays acted s).records ++ (clock_move reached m).records) in
    let all : own ++ (plays_to end (acted ++ next) s).records ≡ shown ++ rest.0 = rw (plays_to_append end acted next s, rest.1) (simp append_assoc) in
    let light : shown_at m v shown ≡ 255 =
    shown_then m v (value s) 255 own ((plays acted s).records ++ (clock_move reached m).records) first
    (shown_then m (value s) (value reached) 255 (plays acted s).records (clock_move reached m).records (shown_plays m a acted s r)
    (shown_move m m reached (omega arith) ∙ lit_is_255 (clock_move reached m).state lit))
    in
    rw all
    (elim (shown_or_lit a m v shown (stamped_first a shown rest.0 (rw all at stamped)) light) [ inl was ↦ inl was | inr x ↦ inr (lit_among a m m [] shown rest.0 (omega arith) x) ])

pub light_shown : (p : Params) (scenes : List Scene) (list : List Cue) (end : ℕ) → Rises 0 list end → StrongLightPromise p scenes list end → LightShown p scenes list end
unfolding records_from
light_shown p scenes list end r light before a i later split due =
    let x = turn_after p scenes before a i in
    let show = light before a i later split due in
    let m : ℕ = show.moment in
    let own : List Record = written (kind i) x.met x.left in
    let whole = rw (← split) at r in
    let rest = rises_from a i later end before 0 whole in
    let acted = rises_reached a m end show.acted show.next x.left (step_clock _ i a) (rw (← show.split) at rest) show.reached in
    let first = shown_written m (kind i) x.met x.left (rw (step_clock _ i a) show.from) in
    let stamped = records_from_then end a p scenes before i later rest in
    elim (rw show.split at (up_to_light a m (value x.met) end own show.acted show.next x.left first acted show.waiting (rw show.split stamped) show.lit)) [
      | inl was ↦ inl (shown_before_lem p scenes before a i (rises_before 0 end before a i later whole) ∙ was)
      | inr lit ↦ inr (lit_later a m (a + p.ondelay) [] _ show.until lit)
    ]

-- ---- Light, by the stamps alone

-- records from a on show nothing before it
shown_before_later : (a v : ℕ) (l : List Record) → StampedFrom a l → shown_before a v l ≡ v
unfolding shown_before
shown_before_later a v [] f = refl
shown_before_later a v (r ∷ l) f = simp (le-leb a r.stamp f.0) (shown_before_later a v l f.1)

shown_before_append : (a v : ℕ) (k l : List Record) → StampedFrom a l → shown_before a v (k ++ l) ≡ shown_before a v k
unfolding shown_before
shown_before_append a v [] l f = shown_before_later a v l f
shown_before_append a v (r ∷ k) l f = shown_before_append a (cond (leb a r.stamp) v r.value) k l f

-- one record: where it makes 255 show at a, it made it show before a, or it brought it at a itself
one_at_or_before : (a v w : ℕ) (r : Record) (l : List Record) → (v ≡ 255 → w ≡ 255) → (cond (leb r.stamp a) r.value v ≡ 255 → cond (leb a r.stamp) w r.value ≡ 255) ⊎ LitRecord a a (r ∷ l)
one_at_or_before a v w r l f = by (leb r.stamp a) (leb a r.stamp) (eqb r.value 255) refl refl refl
  where
    by : (b c d : Bool) → leb r.stamp a ≡ b → leb a r.stamp ≡ c → eqb r.value 255 ≡ d → (cond b r.value v ≡ 255 → cond c w r.value ≡ 255) ⊎ LitRecord a a (r ∷ l)
    by true false d e g h = inl (λ shines. shines)
    by true true true e g h = inr (record { earlier = []; lit = r; later = l; split = refl; from = leb-true _ _ g; until = leb-true _ _ e; shines = eqb-true _ _ h })
    by true true false e g h = inl (λ shines. absurd (eqb-false _ _ h shines))
    by false true d e g h = inl f
    by false false d e g h = absurd (omega (arith, leb-false r.stamp a e, leb-false a r.stamp g))

pub at_or_before : (a v w : ℕ) (l : List Record) → (v ≡ 255 → w ≡ 255) → shown_at a v l ≡ 255 → (shown_before a w l ≡ 255) ⊎ LitRecord a a l
unfolding shown_at shown_before
at_or_before a v w [] f e = inl (f e)
at_or_before a v w (r ∷ l) f e =
    elim (one_at_or_before a v w r l f) [
      | inr x ↦ inr x
      | inl g ↦ elim (at_or_before a (cond (leb r.stamp a) r.value v) (cond (leb a r.stamp) w r.value) l g e) [ inl was ↦ inl was | inr x ↦ inr (lit_later a a a (r ∷ []) l (omega arith) x) ]
    ]

-- with a delay nothing that is stamped a dims, so that a lamp lit when the order is taken shows it in the last record of a
lit_through_ties : (p : Params) (scenes : List Scene) (list : List Cue) (end : ℕ) → Rises 0 list end → 1 ≤ p.timedon → 1 ≤ p.ondelay →
    (before : List Cue) (a : ℕ) (i : Input) (later : List Cue) → before ++ (cue a i ∷ later) ≡ list → LightDue Taken p scenes before a i later end →
    shown_at a 0 (records_before p scenes before a) ≡ 255 → shown_at a 0 (play_list p scenes list end).records ≡ 255
lit_through_ties p scenes list end r some delay before a i later split due was =
    let met : State = (turn_after p scenes before a i).met in
    let whole = rw (← split) at r in
    let lit = lit_where_255 met (sym (shown_before_lem p scenes before a i (rises_before 0 end before a i later whole)) ∙ was) in
    the_last_record_shows_the_output p scenes list end a 0 r (omega (arith, due.reached))
    ∙ lit_is_255 (state_at a list (fresh p scenes)) (a_lit_lamp_stays_lit p scenes list end r some delay before a i later split due lit)

-- TimedOn is not 0 in accepted parameters.
pub light_stamped : (p : Params) (scenes : List Scene) (list : List Cue) (end : ℕ) → Rises 0 list end → 1 ≤ p.timedon → StrongLightPromise p scenes list end →
    LightStamped p scenes list end (play_list p scenes list end).records
light_stamped p scenes list end r some light before a i later split due =
    let early : List Record = records_before p scenes before a in
    let late : List Record = records_from end (turn_after p scenes before a i) later in
    let stamped = records_from_then end a p scenes before i later (rises_from a i later end before 0 (rw (← split) at r)) in
    let all : (play_list p scenes list end).records ≡ early ++ late = rw (← split) (records_split p scenes before a i later end) in
    elim (light_shown p scenes list end r light before a i later split due) [
      | inr x ↦ inl (rw all (lit_later a (a + p.ondelay) (a + p.ondelay) early late (omega arith) x))
      | inl was ↦
          by_order 1 p.ondelay
          (λ delay. inr (inl (lit_through_ties p scenes list end r some delay before a i later split due was)))
          (λ none. elim (at_or_before a 0 0 early (λ e. e) was) [
            | inl e ↦ inr (inr (omega arith, rw all (shown_before_append a 0 early late stamped ∙ e)))
            | inr x ↦ inl (rw all (lit_among a a (a + p.ondelay) [] early late (omega arith) x))
          ])
    ]

-- ---- of every accepted file

module _ (file : List ℕ) (list : List Cue) (read : read_file file ≡ cues list) where
  abbrev p : Params
  p = params_in file

  abbrev scenes : List Scene
  scenes = scenes_in file

  pub the_last_record_of_every_accepted_file_shows_the_output : (t v : ℕ) → t ≤ end_time file → shown_at t v (play_file file list).records ≡ value (state_at t list (fresh p scenes))
  unfolding play_file
  the_last_record_of_every_accepted_file_shows_the_output t v h = the_last_record_shows_the_output p scenes list (end_time file) t v (list_rises file list read) h

  pub dark_shown_in_every_accepted_file : DarkShown p scenes list (end_time file) (play_file file list).records
  unfolding play_file
  dark_shown_in_every_accepted_file = dark_shown p scenes list (end_time file) (list_rises file list read) (dark_of_every_accepted_file file list read)

  pub light_shown_in_every_accepted_file : LightShown p scenes list (end_time file)
  light_shown_in_every_accepted_file = light_shown p scenes list (end_time file) (list_rises file list read) (strong_light_of_every_accepted_file file list read)

  pub light_stamped_in_every_accepted_file : LightStamped p scenes list (end_time file) (play_file file list).records
  unfolding play_file
  light_stamped_in_every_accepted_file = light_stamped p scenes list (end_time file) (list_rises file list read) (has_some_time file list read) (strong_light_of_every_accepted_file file list read)
