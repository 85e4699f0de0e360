-- Laws of tests that the theorems share.
use Prim.Native.Nat.{ℕ, ◌≤◌, ◌<◌}
use mathlib.Core.Bool.{Bool, true, false, cond, ◌&&◌, ◌||◌, beq, true≢false}
use mathlib.Core.Logic.{◌⊎◌, inl, inr}
use mathlib.Core.Path.{◌≡◌, refl, sym}
use native.Mathlib.Omega.{arith}
use lib.Dec.{eqb, leb}
use borrow.Author.Tests.{eq-eqb, eqb-false, leb-true, leb-false}
use mir.Val.{bool_byte}

-- true is stored as 1, false as 0
pub stored : (b : Bool) → bool_byte b ≡ cond b 1 0
stored true = refl
stored false = refl

-- a test that both failed and passed
pub no : {A : Type 0} → false ≡ true → A
no h = absurd (true≢false (sym h))

pub both : (a b : Bool) → (a && b) ≡ true → (a ≡ true) × (b ≡ true)
both true b h = (refl, h)
both false b h = no h

pub neither_left : (a b : Bool) → (a || b) ≡ false → a ≡ false
neither_left true b h = h
neither_left false b h = refl

pub either : (a b : Bool) → (a || b) ≡ true → (a ≡ true) ⊎ (b ≡ true)
either true b h = inl refl
either false b h = inr h

-- and the other way: it is enough that the second holds where the first does not
pub or_else : (a b : Bool) → (a ≡ false → b ≡ true) → (a || b) ≡ true
or_else true b f = refl
or_else false b f = f refl

-- what holds of either branch, under what its test says, holds of the choice
pub cond_case : {A : Type 0} (P : A → Type 0) (b : Bool) (x y : A) → (b ≡ true → P x) → (b ≡ false → P y) → P (cond b x y)
cond_case P true x y f g = f refl
cond_case P false x y f g = g refl

pub cond_zero : {A : Type 0} (P : A → Type 0) (n : ℕ) (x y : A) → P x → (1 ≤ n → P y) → P (cond (eqb n 0) x y)
cond_zero P n x y f g = cond_case P (eqb n 0) x y (λ e. f) (λ e. g (omega (arith, eqb-false n 0 e)))

pub beq_true : (a b : Bool) → beq a b ≡ true → a ≡ b
beq_true true true h = refl
beq_true true false h = cc
beq_true false true h = cc
beq_true false false h = refl

pub beq_same : (a : Bool) → beq a a ≡ true
beq_same true = refl
beq_same false = refl

pub eqb_same : (n : ℕ) → eqb n n ≡ true
eqb_same n = eq-eqb n n refl

-- what holds of both branches holds of the choice
pub either_way : {A : Type 0} (P : A → Type 0) (b : Bool) (x y : A) → P x → P y → P (cond b x y)
either_way P b x y f g = cond_case P b x y (λ e. f) (λ e. g)

pub and_left : (a b : Bool) → (a && b) ≡ true → a ≡ true
and_left a b h = (both a b h).0

pub and_right : (a b : Bool) → (a && b) ≡ true → b ≡ true
and_right a b h = (both a b h).1

-- two moments stand one way or the other
pub by_order : {A : Type 0} (a b : ℕ) → (a ≤ b → A) → (b < a → A) → A
by_order {A} a b f g = by (leb a b) refl
  where
    by : (x : Bool) → leb a b ≡ x → A
    by true e = f (leb-true a b e)
    by false e = g (leb-false a b e)
