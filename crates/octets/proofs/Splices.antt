-- The laws of what is put into a lent buffer.
use Prim.Native.Nat.{ℕ, suc, ◌+◌, ◌≤◌, ◌<◌}
use mathlib.Core.List.{List, [], ◌∷◌, ◌++◌, append_assoc, append-nil}
use mathlib.Core.Path.{◌≡◌, sym, ap, ◌∙◌}
use native.Mathlib.Nat.{add-zero, add_assoc}
use native.Mathlib.Numerals.{add-one}
use native.Mathlib.Omega.{arith}
use lib.ListN.{length, take, drop, get_or, set, length-append, take-append-drop, get_or-append}
use lib.Seq.{take_at, drop_at, drop-drop, length-take-le, set_at, drop-cons, append_snoc, get_or-append-add}
use borrow.Rule.Slice.PartMut.{put_mid}
use Rattle.octets.specs.BigEndian.{octet}
use Rattle.octets.specs.Splice.{splice}

pub splice_none : (b : List ℕ) (at : ℕ) → b ≡ splice b at []
unfolding splice
splice_none b at = simp (add-zero, append-nil, take-append-drop)

-- a part of a slice is written: k octets from a place on, which are these now
pub write_splices : (b : List ℕ) (at k : ℕ) (now xs : List ℕ) → now ≡ xs → k ≡ length xs → put_mid at k b now ≡ splice b at xs
unfolding splice
write_splices b at k now xs is all = rw (is, all, drop-drop) (sym (append_assoc (take at b) xs (drop (at + length xs) b)))

-- what was put is found there
pub splice_octet : (b : List ℕ) (at : ℕ) (xs : List ℕ) (j : ℕ) → at ≤ length b → j < length xs → octet (splice b at xs) (at + j) ≡ octet xs j
unfolding splice
splice_octet b at xs j within inside =
    let d : List ℕ = drop (at + length xs) b in
    ap (λ (n : ℕ). octet (take at b ++ xs ++ d) (n + j)) (sym (length-take-le at b within)) ∙ rw (append_assoc (take at b) xs d) (get_or-append-add (take at b) (xs ++ d) j 0 ∙ get_or-append xs d 0 j inside)

-- a second piece right after a first
pub splice_splice : (b : List ℕ) (at to : ℕ) (xs ys : List ℕ) → at ≤ length b → to ≡ at + length xs → splice (splice b at xs) to ys ≡ splice b at (xs ++ ys)
unfolding splice
splice_splice b at to xs ys h e =
    let l : length (take at b ++ xs) ≡ to = length-append (take at b) xs ∙ ap (λ (n : ℕ). n + length xs) (length-take-le at b h) ∙ sym e in
    let p : List ℕ = take at b ++ xs in
    let d : List ℕ = drop (at + length xs) b in
    rw (take_at p d to l, ← drop-drop (length ys) to (p ++ d), drop_at p d to l, drop-drop, length-append, add_assoc) (simp append_assoc)

-- one octet
set_splice : (b : List ℕ) (i x : ℕ) → i < length b → set b i x ≡ splice b i (x ∷ [])
unfolding splice
set_splice b i x h =
    let l : length (take i b) ≡ i = length-take-le i b (omega arith) in
    ap (λ (c : List ℕ). set c i x) (sym (take-append-drop i b) ∙ ap (λ (c : List ℕ). take i b ++ c) (drop-cons b i 0 h))
    ∙ set_at (take i b) (get_or b i 0) (drop (suc i) b) x i l
    ∙ sym (append_snoc (take i b) x (drop (suc i) b))
    ∙ ap (λ (n : ℕ). take i b ++ (x ∷ []) ++ drop n b) (sym (add-one i))

-- one octet more after the front that was replaced
pub octet_more : (b c : List ℕ) (i x : ℕ) (xs : List ℕ) → c ≡ splice b 0 xs → length xs ≡ i → i < length c → set c i x ≡ splice b 0 (xs ++ (x ∷ []))
octet_more b c i x xs p e h = set_splice c i x h ∙ rw p (splice_splice b 0 i xs (x ∷ []) (omega arith) (omega arith))
