-- The laws of an image that is put together part by part.
use Prim.Native.Nat.{ℕ, ◌+◌, ◌*◌, ◌≤◌, ◌<◌}
use mathlib.Core.List.{List, [], ◌∷◌, ◌++◌, append_assoc, append-nil}
use mathlib.Core.Path.{◌≡◌, refl, ◌∙◌}
use native.Mathlib.Numerals.{add-one}
use native.Mathlib.Omega.{arith}
use lib.ListN.{length, take, get_or, length-append}
use lib.Seq.{take-suc, length-take-le, drop-length}
use Rattle.octets.specs.Splice.{splice}
use Rattle.octets.proofs.Splices.{splice_splice}
use Rattle.rules.specs.declared.parameters.Scene.{Scene}
use Rattle.rules.specs.Written.{flags_octet, scenes_octets}
use Rattle.rules.proofs.Laws.Written.{scenes_length}

-- ---- parts that are put one after the other

-- the next part, right after those before
pub put_after : (b c : List ℕ) (at to : ℕ) (xs ys : List ℕ) → c ≡ splice b at xs → at ≤ length b → to ≡ at + length xs → splice c to ys ≡ splice b at (xs ++ ys)
put_after b c at to xs ys e within place = rw e (splice_splice b at to xs ys within place)

-- parts that fill the buffer are all that it holds
put_whole : (b xs : List ℕ) → length b ≡ length xs → splice b 0 xs ≡ xs
unfolding splice
put_whole b xs e =
    let end : 0 + length xs ≡ length b = omega arith in
    rw (end, drop-length) (append-nil xs)

-- five parts, each right after the one before
pub five_parts : (b b₁ b₂ b₃ b₄ b₅ times modes scenes flags moments : List ℕ) → length b ≡ 56
    → length times ≡ 16 → length modes ≡ 8 → length scenes ≡ 16 → length flags ≡ 8 → length moments ≡ 8
    → b₁ ≡ splice b 0 times → b₂ ≡ splice b₁ 16 modes → b₃ ≡ splice b₂ 24 scenes → b₄ ≡ splice b₃ 40 flags → b₅ ≡ splice b₄ 48 moments
    → b₅ ≡ (times ++ (modes ++ scenes)) ++ (flags ++ moments)
five_parts b b₁ b₂ b₃ b₄ b₅ t m k f o whole lt lm lk lf lo e₁ e₂ e₃ e₄ e₅ =
    let two = e₂ ∙ put_after b b₁ 0 16 t m e₁ (omega arith) (omega arith) in
    let three = e₃ ∙ put_after b b₂ 0 24 (t ++ m) k two (omega arith) (simp length-append (omega arith)) in
    let four = e₄ ∙ put_after b b₃ 0 40 (t ++ m ++ k) f three (omega arith) (simp length-append (omega arith)) in
    let five = e₅ ∙ put_after b b₄ 0 48 (t ++ m ++ k ++ f) o four (omega arith) (simp length-append (omega arith)) in
    five ∙ put_whole b (t ++ m ++ k ++ f ++ o) (simp length-append (omega arith)) ∙ simp append_assoc

-- the entries of a table that come first, and one more
scenes_append : (k l : List Scene) → scenes_octets (k ++ l) ≡ scenes_octets k ++ scenes_octets l
scenes_append [] l = refl
scenes_append (e ∷ later) l = rw (scenes_append later l)

pub put_next_scene : (b c : List ℕ) (at n : ℕ) (k : List Scene) (z : Scene) → at ≤ length b → n < length k
    → c ≡ splice b at (scenes_octets (take n k))
    → splice c (at + 2 * n) ((get_or k n z).number ∷ flags_octet (get_or k n z) ∷ []) ≡ splice b at (scenes_octets (take (n + 1) k))
put_next_scene b c at n k z within inside e =
    let few : length (take n k) ≡ n = length-take-le n k (omega arith) in
    let place : at + 2 * n ≡ at + length (scenes_octets (take n k)) = rw (scenes_length, few) in
    rw (add-one, take-suc k n z, scenes_append) (put_after b c at (at + 2 * n) (scenes_octets (take n k)) _ e within place)
