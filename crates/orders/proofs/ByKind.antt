-- An order by the number of its kind is the order of the rules, and so is a value that is noted.
use mathlib.Core.Path.{◌≡◌, refl, sym}
use Rattle.rules.specs.declared.input.Input.{Input}
use Rattle.rules.specs.declared.state.State.{State}
use Rattle.rules.specs.Orders.{order, noted}
use Rattle.rules.proofs.Laws.Cases.{each_input}
use Rattle.orders.specs.ByKind.{order_by_kind, noted_by_kind}

pub an_order_is_by_its_kind : (s : State) (i : Input) → order_by_kind s i ≡ order s i
unfolding order_by_kind order
an_order_is_by_its_kind s = each_input (λ i. order_by_kind s i ≡ order s i) (λ value. refl) (λ value. refl) (λ learns number. refl) (λ force. refl) (λ value. refl) (λ value. refl) (λ event. refl) (λ event. refl)

pub a_note_is_by_its_kind : (s : State) (i : Input) → noted_by_kind s i ≡ noted s i
unfolding noted_by_kind noted
a_note_is_by_its_kind s = each_input (λ i. noted_by_kind s i ≡ noted s i) (λ value. refl) (λ value. refl) (λ learns number. refl) (λ force. refl) (λ value. refl) (λ value. refl) (λ event. refl) (λ event. refl)

-- from the order of the rules to that by its kind, as the code is written
pub the_order_by_kind : (s : State) (i : Input) → order s i ≡ order_by_kind s i
the_order_by_kind s i = sym (an_order_is_by_its_kind s i)

pub the_note_by_kind : (s : State) (i : Input) → noted s i ≡ noted_by_kind s i
the_note_by_kind s i = sym (a_note_is_by_its_kind s i)
