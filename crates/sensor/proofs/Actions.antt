-- The four actions: their numbers, and what their check finds.
use Rattle.std.specs.Prelude.{Some, None, Ok, Err, nat_lt, position}
use Rattle.std.specs.List.{position_or_len}
use Rattle.std.proofs.lemmas.List.Quantifiers.{position-Some}
use Rattle.std.proofs.lemmas.List.Sums.{fails_before_first}
use Prim.Native.Nat.{ℕ, zero, suc, ◌≤◌, ◌<◌}
use mathlib.Core.Bool.{Bool, true, false}
use mathlib.Core.List.{List}
use mathlib.Core.Logic.{inl, inr}
use mathlib.Core.Path.{◌≡◌, refl, sym}
use native.Mathlib.Omega.{arith}
use lib.Dec.{eqb, leb}
use lib.ListN.{length}
use borrow.Author.Tests.{eqb-true, eqb-false, ne_eqb, eq-eqb, leb-true, leb-false, le-leb, lt-leb, ltb-true, ltb-false}
use Rattle.octets.specs.BigEndian.{octet}
use Rattle.base.specs.declared.refusal.Refusal.{Refusal}
use Rattle.base.specs.declared.refusal.Refusal.TheVariants.{WrongLength, BadAction}
use Rattle.base.specs.Refusals.{Decides, Check, refused_with}
use Rattle.base.proofs.Tests.{cond_case}
use Rattle.base.proofs.Codes.{codes_of_a_check}
use Rattle.sensor.specs.declared.action.Action.{Action}
use Rattle.sensor.specs.declared.action.Action.TheVariants.{Nothing, SendOff, SendOn, SendInverse}
use Rattle.sensor.specs.Actions.{action_number, action_of, bad_action, check_actions}
use Rattle.sensor.specs.Calls.{fresh_sensor_by, fresh_sensor_call}
use Rattle.sensor.specs.Refusals.{GoodActions, FirstBadAction, ActionsWhen, FreshSensorCodes}

-- ---- numbers, both ways

pub action_of_its_number : (a : Action) → action_of (action_number a) ≡ a
unfolding action_of
action_of_its_number Nothing = refl
action_of_its_number SendOff = refl
action_of_its_number SendOn = refl
action_of_its_number SendInverse = refl

pub number_of_its_action : (n : ℕ) → n ≤ 3 → action_number (action_of n) ≡ n
unfolding action_of
number_of_its_action n few =
    let Right : Action → Type 0 = λ a. action_number a ≡ n in
    cond_case Right (eqb n 0) _ _ (λ e. sym (eqb-true n 0 e))
    (λ some. cond_case Right (eqb n 1) _ _ (λ e. sym (eqb-true n 1 e))
    (λ more. cond_case Right (eqb n 2) _ _ (λ e. sym (eqb-true n 2 e))
    (λ yet. omega (arith, eqb-false n 0 some, eqb-false n 1 more, eqb-false n 2 yet))))

-- ---- the check

module _ (octets : List ℕ) where
  -- what a check says, by the row that it names
  abbrev Says : Check → Type 0
  Says (Ok _) = GoodActions octets
  Says (Err fault) = ActionsWhen octets fault.why fault.place

  -- the octets before a place are at most 3
  abbrev GoodTo : ℕ → Type 0
  GoodTo at = (j : ℕ) → j < at → octet octets j ≤ 3

  one_more : (at : ℕ) → octet octets at ≤ 3 → GoodTo at → GoodTo (suc at)
  one_more at here before j h = by (eqb j at) refl
    where
      by : (b : Bool) → eqb j at ≡ b → octet octets j ≤ 3
      by true e = rw (eqb-true j at e) here
      by false e = before j (omega (arith, eqb-false j at e))

  first_bad : (at : ℕ) → length octets ≡ 4 → at < 4 → GoodTo at → leb (octet octets at) 3 ≡ false → FirstBadAction octets at
  first_bad at whole within before e = record { whole = whole; within = within; bad = leb-false _ _ e; good = before }

  -- octet by octet
  says : Says (check_actions octets)
  unfolding check_actions bad_action
  says =
      cond_case Says (eqb (length octets) 4) _ (refused_with WrongLength 0)
      (λ four. let whole = eqb-true _ _ four in let start : GoodTo 0 = λ j h. absurd (omega arith) in
      cond_case Says (leb (octet octets 0) 3) _ (refused_with BadAction 0)
      (λ a. let to1 = one_more 0 (leb-true _ _ a) start in
      cond_case Says (leb (octet octets 1) 3) _ (refused_with BadAction 1)
      (λ b. let to2 = one_more 1 (leb-true _ _ b) to1 in
      cond_case Says (leb (octet octets 2) 3) _ (refused_with BadAction 2)
      (λ c. let to3 = one_more 2 (leb-true _ _ c) to2 in
      cond_case Says (leb (octet octets 3) 3) (Ok tt) (refused_with BadAction 3)
      (λ d. record { whole = whole; good = one_more 3 (leb-true _ _ d) to3 })
      (λ d. inr (refl, first_bad 3 whole (omega arith) to3 d)))
      (λ c. inr (refl, first_bad 2 whole (omega arith) to2 c)))
      (λ b. inr (refl, first_bad 1 whole (omega arith) to1 b)))
      (λ a. inr (refl, first_bad 0 whole (omega arith) start a)))
      (λ other. inl (refl, refl, eqb-false _ _ other))

  -- and the other way round: the row that holds is found
  pub good_is_passed : GoodActions octets → check_actions octets ≡ Ok tt
  unfolding check_actions
  good_is_passed g =
      rw (eq-eqb _ _ g.whole, le-leb _ _ (g.good 0 (omega arith)), le-leb _ _ (g.good 1 (omega arith)), le-leb _ _ (g.good 2 (omega arith)), le-leb _ _ (g.good 3 (omega arith)))

  bad_is_found : (at : ℕ) → FirstBadAction octets at → check_actions octets ≡ refused_with BadAction at
  unfolding check_actions bad_action
  bad_is_found zero f = rw (eq-eqb _ _ f.whole, lt-leb _ _ f.bad)
  bad_is_found (suc zero) f = rw (eq-eqb _ _ f.whole, le-leb _ _ (f.good 0 (omega arith)), lt-leb _ _ f.bad)
  bad_is_found (suc (suc zero)) f = rw (eq-eqb _ _ f.whole, le-leb _ _ (f.good 0 (omega arith)), le-leb _ _ (f.good 1 (omega arith)), lt-leb _ _ f.bad)
  bad_is_found (suc (suc (suc zero))) f = rw (eq-eqb _ _ f.whole, le-leb _ _ (f.good 0 (omega arith)), le-leb _ _ (f.good 1 (omega arith)), le-leb _ _ (f.good 2 (omega arith)), lt-leb _ _ f.bad)
  bad_is_found (suc (suc (suc (suc n)))) f = absurd (omega (arith, f.within))

  found : (why : Refusal) (p : ℕ) → ActionsWhen octets why p → check_actions octets ≡ refused_with why p
  found why p g =
      elim g [
        | inl (row, place, other) ↦ unfold check_actions in rw (ne_eqb _ _ other, row, place)
        | inr (row, bad) ↦ rw row (bad_is_found p bad)
      ]

  -- the code looks for the first octet above 3
  pub first_above_is_blamed : (place : ℕ) → position (nat_lt 3) octets ≡ Some place → length octets ≡ 4 → refused_with BadAction place ≡ check_actions octets
  first_above_is_blamed place e whole =
      let f = position-Some (nat_lt 3) octets place 0 e in
      sym (bad_is_found place (record { whole = whole; within = omega (arith, f.0, whole); bad = ltb-true _ _ f.1; good = λ j h. ltb-false _ _ (f.2 j h) }))

  pub none_above_is_passed : position (nat_lt 3) octets ≡ None → length octets ≡ 4 → Ok tt ≡ check_actions octets
  none_above_is_passed e whole = sym (good_is_passed (record { whole = whole; good = λ j h. ltb-false _ _ (fails_before_first (nat_lt 3) octets j 0 (omega (arith, past (nat_lt (position_or_len (nat_lt 3) octets) (length octets)) refl, whole))) }))
    where
      past : (b : Bool) → nat_lt (position_or_len (nat_lt 3) octets) (length octets) ≡ b → length octets ≤ position_or_len (nat_lt 3) octets
      past true h = let some : Some (position_or_len (nat_lt 3) octets) ≡ None = rw h at e in cc
      past false h = ltb-false _ _ h

  pub other_lengths_are_wrong : (length octets ≡ 4 → ⊥) → refused_with WrongLength 0 ≡ check_actions octets
  other_lengths_are_wrong other = sym (found WrongLength 0 (inl (refl, refl, other)))

  pub passed_has_four : check_actions octets ≡ (Ok tt) → length octets ≡ 4
  passed_has_four e = (rw e at says).whole

  pub actions_decide : Decides (ActionsWhen octets) (GoodActions octets) (check_actions octets)
  actions_decide = record { refused = λ why p. (λ e. rw e at says, found why p); passed = (λ e. rw e at says, good_is_passed) }

  pub fresh_sensor_refused_exactly_when : FreshSensorCodes octets (fresh_sensor_call octets).code (fresh_sensor_call octets).place
  unfolding fresh_sensor_call fresh_sensor_by
  fresh_sensor_refused_exactly_when = codes_of_a_check (check_actions octets) actions_decide
