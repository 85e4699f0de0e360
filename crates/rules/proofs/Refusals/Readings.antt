-- A list of inputs, whatever they may say: read without fault from its first on, or refused for the first that is at fault.
use Rattle.std.specs.Prelude.{Ok, Err, Option, Some, None, slice_get}
use Prim.Native.Nat.{ℕ, zero, suc, ◌+◌, ◌≤◌, ◌<◌}
use mathlib.Core.Bool.{Bool, true, false, cond, ◌&&◌, and-false}
use mathlib.Core.List.{List, [], ◌∷◌}
use mathlib.Core.Logic.{◌⊎◌, inl, inr}
use mathlib.Core.Path.{◌≡◌, refl, sym, ap, ◌∙◌}
use native.Mathlib.Nat.{eq-or-lt_of_le}
use native.Mathlib.Numerals.{add-one}
use native.Mathlib.Omega.{arith}
use lib.ListN.{length}
use lib.Dec.{leb}
use borrow.Author.Count.{below_none, below_more}
use borrow.Author.Tests.{leb-true, leb-false, le-leb, lt-leb}
use Rattle.octets.specs.Groups.{stamp_at}
use Rattle.base.specs.declared.refusal.Refusal.{Refusal}
use Rattle.base.specs.declared.refusal.Refusal.TheVariants.{BadInput, BadStamp, ShortBuffer}
use Rattle.base.proofs.Codes.{same_row}
use Rattle.base.specs.Refusals.{or_else, Decides, Check, refused_with}
use Rattle.rules.specs.Layout.{input_place}
use Rattle.rules.specs.Readings.{Reading, cues, bad, verdict, found, before, read_one, read_inputs, after_check, if_lent_enough}
use Rattle.rules.specs.Refusals.{stamp_before, GoodInput, GoodInputs, InputsWhen}
use Rattle.base.proofs.Tests.{both, cond_case}

-- what is wrong before the inputs, then what is wrong with them
pub verdict_after : {A : Type 0} (c : Check) (r : Reading A) → verdict (after_check c r) ≡ or_else c (verdict r)
verdict_after (Ok _) r = refl
verdict_after (Err fault) r = refl

-- "then 8"
pub verdict_if_lent : {A : Type 0} (b : Bool) (r : Reading A) → verdict (if_lent_enough b r) ≡ or_else (verdict r) (cond b (Ok tt) (refused_with ShortBuffer 0))
verdict_if_lent true (cues list) = refl
verdict_if_lent true (bad why place) = refl
verdict_if_lent false (cues list) = refl
verdict_if_lent false (bad why place) = refl

-- a verdict tells the reading, but for its list
pub bad_read : {A : Type 0} (r : Reading A) (why : Refusal) (place : ℕ) → verdict r ≡ refused_with why place → r ≡ bad why place
bad_read (cues list) why place e = absurd (let z : ◌≡◌ {A = ℕ} 0 1 = cc in omega arith)
bad_read (bad reason at) why place e = let same = same_row reason why at place e in rw (same.0, same.1) refl

pub good_read : {A : Type 0} (r : Reading A) → verdict r ≡ (Ok tt) → r ≡ cues (found r)
good_read (cues list) e = refl
good_read (bad reason at) e = absurd (let z : ◌≡◌ {A = ℕ} 0 1 = cc in omega arith)

-- a stamp that fails one of two tests is below or above
pub out_of_range : (low stamp high : ℕ) → (leb low stamp && leb stamp high) ≡ false → (stamp < low) ⊎ (high < stamp)
out_of_range low stamp high h = by (leb low stamp) refl h
  where
    by : (b : Bool) → leb low stamp ≡ b → (b && leb stamp high) ≡ false → (stamp < low) ⊎ (high < stamp)
    by false e h = inl (leb-false low stamp e)
    by true e h = inr (leb-false stamp high h)

not_in_range : (low stamp high : ℕ) → (stamp < low) ⊎ (high < stamp) → (leb low stamp && leb stamp high) ≡ false
not_in_range low stamp high (inl below) = simp (lt-leb low stamp below)
not_in_range low stamp high (inr above) = simp (lt-leb stamp high above, and-false)

-- the stamp before the next input is this one's
next_stamp : (inputs : List ℕ) (from i : ℕ) → stamp_before inputs from (i + 1) ≡ stamp_at inputs (input_place i)
next_stamp inputs from i = rw (add-one i)

-- a list that is read after its first
after_first : {A : Type 0} (x : A) (r : Reading A) (list : List A) → before x r ≡ cues list → (later : List A) × (list ≡ x ∷ later) × (r ≡ cues later)
after_first x (cues later) list e = (later, cc, refl)
after_first x (bad why place) list e = absurd (let z : ◌≡◌ {A = ℕ} 0 1 = cc in omega arith)

-- the list starts with the input at index i, which is made of what is meant there, and whose stamp is in order; the rest of it is read from there on
pub record FirstOf {A B : Type 0} (at : ℕ → Option A) (Means : B → Type 0) (made : B → A) (inputs : List ℕ) (left i last end : ℕ) (list : List A) : Type 0 where
  pub input : B
  pub later : List A
  pub meant : Means input
  pub risen : last ≤ stamp_at inputs (input_place i)
  pub timely : stamp_at inputs (input_place i) ≤ end
  pub starts : list ≡ made input ∷ later
  pub reads : read_inputs at inputs left (i + 1) (stamp_at inputs (input_place i)) end ≡ cues later

abbrev First : {A : Type 0} → (ℕ → Option A) → List ℕ → ℕ → ℕ → ℕ → ℕ → List A → Type 0
First at inputs left i last end list = FirstOf at (λ x. at i ≡ Some x) (λ x. x) inputs left i last end list

first_read : {A : Type 0} (at : ℕ → Option A) (inputs : List ℕ) (left i last end : ℕ) (list : List A) → read_inputs at inputs (suc left) i last end ≡ cues list → First at inputs left i last end list
unfolding read_inputs
first_read {A} at inputs left i last end list e = by (at i) refl e
  where
    later : Reading A
    later = read_inputs at inputs left (i + 1) (stamp_at inputs (input_place i)) end

    timed : (x : A) (b : Bool) → at i ≡ Some x → (leb last (stamp_at inputs (input_place i)) && leb (stamp_at inputs (input_place i)) end) ≡ b
        → cond b (before x later) (bad BadStamp i) ≡ cues list → First at inputs left i last end list
    timed x true m t r =
        let order = both (leb last (stamp_at inputs (input_place i))) (leb (stamp_at inputs (input_place i)) end) t in
        let rest = after_first x later list r in
        record {
          input = x;
          later = rest.0;
          meant = m;
          risen = leb-true _ _ order.0;
          timely = leb-true _ _ order.1;
          starts = rest.1;
          reads = rest.2;
        }
    timed x false m t r = absurd (let z : ◌≡◌ {A = ℕ} 0 1 = cc in omega arith)

    by : (d : Option A) → at i ≡ d → read_one d (stamp_at inputs (input_place i)) last end i later ≡ cues list → First at inputs left i last end list
    by None m r = absurd (let z : ◌≡◌ {A = ℕ} 0 1 = unfold read_one in cc in omega arith)
    by (Some x) m r = unfold read_one in timed x _ m refl r

-- what stands there may be told by what it is made of
pub first_of : {A B : Type 0} (at : ℕ → Option A) (Means : B → Type 0) (made : B → A) (inputs : List ℕ) (left i last end : ℕ) (list : List A) → ((x : A) → at i ≡ Some x → (b : B) × Means b × (x ≡ made b)) →
    read_inputs at inputs (suc left) i last end ≡ cues list → FirstOf at Means made inputs left i last end list
first_of {A} at Means made inputs left i last end list said e =
    let f = first_read at inputs left i last end list e in
    let c = said f.input f.meant in
    record { input = c.0; later = f.later; meant = c.1; risen = f.risen; timely = f.timely; starts = f.starts ∙ ap (λ (x : A). x ∷ f.later) c.2; reads = f.reads }

-- what is read without fault up to an end is read the same up to a later one
pub read_for_longer : {A : Type 0} (at : ℕ → Option A) (inputs : List ℕ) (left i last end longer : ℕ) (list : List A) → end ≤ longer → read_inputs at inputs left i last end ≡ cues list → read_inputs at inputs left i last longer ≡ cues list
unfolding read_inputs read_one
read_for_longer at inputs zero i last end longer list later e = e
read_for_longer at inputs (suc left) i last end longer list later e =
    let f = first_read at inputs left i last end list e in
    let t : ℕ = stamp_at inputs (input_place i) in
    let rest = read_for_longer at inputs left (i + 1) t end longer f.later later f.reads in
    let whole : read_inputs at inputs (suc left) i last longer ≡ cues (f.input ∷ f.later) = rw (f.meant, le-leb last t f.risen, le-leb t longer (omega (arith, f.timely, later)), rest) refl in
    whole ∙ ap cues (sym f.starts)

module _ {A : Type 0} (at : ℕ → Option A) (inputs : List ℕ) (n from to : ℕ) where
  -- ---- the answer given fits

  -- what a reading says about the inputs
  abbrev Said : Reading A → Type 0
  Said (cues list) = GoodInputs at inputs n from to
  Said (bad why place) = InputsWhen at inputs n from to why place

  -- an input put before a reading changes nothing of that
  before_said : (x : A) (later : Reading A) → Said later → Said (before x later)
  before_said x (cues list) g = g
  before_said x (bad why place) g = g

  -- one input, when those before it are good: it is refused, or good itself
  one_said : (i : ℕ) → i < n → ((j : ℕ) → j < i → GoodInput at inputs from to j) → (later : Reading A) → (GoodInput at inputs from to i → Said later) →
      Said (read_one (at i) (stamp_at inputs (input_place i)) (stamp_before inputs from i) to i later)
  one_said i within good later next = by (at i) refl
    where
      by : (d : Option A) → at i ≡ d → Said (read_one d (stamp_at inputs (input_place i)) (stamp_before inputs from i) to i later)
      by None e = unfold read_one in record { within = within; wrong = e; good = good }
      by (Some x) e =
          unfold read_one in
          cond_case Said (leb (stamp_before inputs from i) (stamp_at inputs (input_place i)) && leb (stamp_at inputs (input_place i)) to)
          (before x later) (bad BadStamp i)
          (λ h. let t = both (leb (stamp_before inputs from i) (stamp_at inputs (input_place i))) _ h in
          before_said x later (next (record { input = x; means = e; risen = leb-true _ _ t.0; timely = leb-true _ _ t.1 })))
          (λ h. record { within = within; input = x; means = e; untimely = out_of_range _ _ _ h; good = good })

  -- from an input on, when those before it are good: one turn refuses, or hands on to the next
  inputs_said : (left i : ℕ) → i + left ≡ n → ((j : ℕ) → j < i → GoodInput at inputs from to j) → Said (read_inputs at inputs left i (stamp_before inputs from i) to)
  unfolding read_inputs
  inputs_said zero i all good = λ j within. good j (omega arith)
  inputs_said (suc left) i all good =
      one_said i (omega arith) good _ (λ here. rw (next_stamp inputs from i) at (inputs_said left (i + 1) (omega arith) (below_more (GoodInput at inputs from to) i good here)))

  -- ---- and what fits is the answer given

  -- a good input is put before what is read after it
  one_read : (i : ℕ) (g : GoodInput at inputs from to i) (later : Reading A) → read_one (at i) (stamp_at inputs (input_place i)) (stamp_before inputs from i) to i later ≡ before g.input later
  unfolding read_one
  one_read i g later = simp (g.means, le-leb (stamp_before inputs from i) (stamp_at inputs (input_place i)) g.risen, le-leb (stamp_at inputs (input_place i)) to g.timely)

  -- so the reading comes as far as the first input that is not good, and ends with it
  first_ends : (why : Refusal) (place left i : ℕ) → i ≤ place → place < i + left → ((j : ℕ) → j < place → GoodInput at inputs from to j) →
      ((later : Reading A) → read_one (at place) (stamp_at inputs (input_place place)) (stamp_before inputs from place) to place later ≡ bad why place) →
      read_inputs at inputs left i (stamp_before inputs from i) to ≡ bad why place
  unfolding read_inputs
  first_ends why place zero i reached within good ends = absurd (omega arith)
  first_ends why place (suc left) i reached within good ends =
      elim (eq-or-lt_of_le reached) [
        | inl same ↦ rw same (ends _)
        | inr less ↦ one_read i (good i less) _ ∙ rw (rw (next_stamp inputs from i) at (first_ends why place left (i + 1) (omega arith) (omega arith) good ends))
      ]

  ends : (why : Refusal) (place : ℕ) → InputsWhen at inputs n from to why place → read_inputs at inputs n 0 from to ≡ bad why place
  -- an input that means nothing ends it, whatever its stamp is
  ends BadInput place g = first_ends BadInput place n 0 (omega arith) (omega (arith, g.within)) g.good (λ later. unfold read_one in rw g.wrong)
  -- one that means something is ended by its stamp alone
  ends BadStamp place g =
      first_ends BadStamp place n 0 (omega arith) (omega (arith, g.within)) g.good (λ later. unfold read_one in rw (g.means, not_in_range _ _ _ g.untimely))
  ends _ place g = elim g [ ]

  -- these many of a list, from index i on
  record SaysFrom (i left : ℕ) (list : List A) : Type 0 where
    count : length list ≡ left
    each : (k : ℕ) → k < left → slice_get list k ≡ at (i + k)

  -- one input more, at the head
  says_more : (i left : ℕ) (list : List A) (g : GoodInput at inputs from to i) → SaysFrom (i + 1) left list → SaysFrom i (suc left) (g.input ∷ list)
  says_more i left list g s = record { count = ap suc s.count; each = by }
    where
      by : (k : ℕ) → k < suc left → slice_get (g.input ∷ list) k ≡ at (i + k)
      by zero within = let e : i + 0 ≡ i = omega arith in rw e (sym g.means)
      by (suc k) within = let e : i + suc k ≡ i + 1 + k = omega arith in rw e (s.each k (omega arith))

  -- from an input on, good ones are all read
  all_read : GoodInputs at inputs n from to → (left i : ℕ) → i + left ≡ n → (list : List A) × (read_inputs at inputs left i (stamp_before inputs from i) to ≡ cues list) × SaysFrom i left list
  unfolding read_inputs
  all_read g zero i all = ([], refl, record { count = refl; each = λ k within. absurd (omega arith) })
  all_read g (suc left) i all =
      let here = g i (omega arith) in
      let later = all_read g left (i + 1) (omega arith) in
      (here.input ∷ later.0, one_read i here _ ∙ rw (rw (next_stamp inputs from i) at later.1), says_more i left later.0 here later.2)

  -- ---- both ways

  abbrev all : Reading A
  all = read_inputs at inputs n 0 from to

  said : Said all
  said = inputs_said n 0 (omega arith) (below_none _)

  pub inputs_decide : Decides (InputsWhen at inputs n from to) (GoodInputs at inputs n from to) (verdict all)
  inputs_decide =
      record {
        refused = λ why p. (λ e. rw (bad_read all why p e) at said, λ g. ap verdict (ends why p g));
        passed = (λ e. rw (good_read all e) at said, λ g. ap verdict (all_read g n 0 (omega arith)).1);
      }

  -- the list is what the inputs say, as many and in their order
  pub list_is_the_inputs : (list : List A) → all ≡ cues list → (length list ≡ n) × ((j : ℕ) → j < n → slice_get list j ≡ at j)
  list_is_the_inputs list e =
      let good : GoodInputs at inputs n from to = rw e at said in
      let r = all_read good n 0 (omega arith) in
      let same : r.0 ≡ list = cc in
      let s = rw same at r.2 in
      (s.count, λ j within. let e : 0 + j ≡ j = omega arith in rw e at (s.each j within))
