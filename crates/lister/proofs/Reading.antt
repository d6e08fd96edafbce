-- What was read into lent bytes, beside what the input had left. Assumes nothing.
use Rattle.std.specs.Prelude.{◌≡◌, ℕ, ◌+◌, ◌≤◌, List, ◌++◌, length, take, None, Some, IfSome}
use Rattle.std.proofs.Common.{sym, ap, ◌∙◌, subst, arith, append-nil, length-take-le, take_all, le_refl}
use Rattle.std.proofs.KnownBytes.{Consumes-trans}
use Rattle.std.proofs.lemmas.List.{take-append-le}
use Rattle.std.proofs.lemmas.Slice.{take-put_mid_below}
use Rattle.std.proofs.Math.Seq.{take-append_seam, take-append-add}
use Rattle.std.specs.declared.option.Option.{Option}
use Rattle.std.specs.Io.KnownBytes.{Consumes, IsAtEnd}
use borrow.Rule.Slice.PartMut.{put_mid, post_of}
use Rattle.lister.specs.Sizes.{BYTES}

-- n bytes read after the first `at`
take-put_mid : (at k n : ℕ) (xs ys : List ℕ) → at ≤ length xs → n ≤ length ys → take (at + n) (put_mid at k xs ys) ≡ take at xs ++ take n ys
take-put_mid at k n xs ys h l =
    ap (λ m. take (m + n) (put_mid at k xs ys)) (sym (length-take-le at xs h))
    ∙ take-append-add (take at xs) (ys ++ post_of at k xs) n
    ∙ ap (λ zs. take at xs ++ zs) (take-append-le n ys (post_of at k xs) l)

pub came_more : (a b c : Option (List ℕ)) (at k n : ℕ) (xs ys : List ℕ) → at ≤ length xs → n ≤ length ys → Consumes a b (take at xs)
    → Consumes b c (take n ys)
    → Consumes a c (take (at + n) (put_mid at k xs ys))
came_more a b c at k n xs ys h l p q = subst (Consumes a c) (sym (take-put_mid at k n xs ys h l)) (Consumes-trans a b c _ _ p q)

-- the lent bytes are full
pub came_full : (a b : Option (List ℕ)) (at : ℕ) (xs : List ℕ) → at ≡ BYTES → at ≤ length xs → Consumes a b (take at xs)
    → IfSome a (λ left. take at xs ≡ take BYTES left)
came_full None b at xs e h p = tt
came_full (Some x) None at xs e h p = absurd p
came_full (Some x) (Some y) at xs e h p =
    sym (ap (take BYTES) p ∙ ap (λ m. take m (take at xs ++ y)) (sym (length-take-le at xs h ∙ e)) ∙ take-append_seam (take at xs) y)

all_came : (a b : Option (List ℕ)) (bs : List ℕ) → length bs ≤ BYTES → Consumes a b bs → IsAtEnd b → IfSome a (λ left. bs ≡ take BYTES left)
all_came None b bs h p e = tt
all_came (Some x) None bs h p e = absurd p
all_came (Some x) (Some y) bs h p e = sym (ap (take BYTES) (p ∙ ap (λ l. bs ++ l) e ∙ append-nil bs) ∙ take_all BYTES bs h)

-- a read of no bytes: the input has ended
pub came_all : (a b c : Option (List ℕ)) (at k n : ℕ) (xs ys : List ℕ) → at ≤ length xs → at ≤ BYTES → n ≡ 0 → Consumes a b (take at xs)
    → Consumes b c (take n ys)
    → IsAtEnd c
    → IfSome a (λ left. take at (put_mid at k xs ys) ≡ take BYTES left)
came_all a b c at k n xs ys h m z p q e =
    let none : take at xs ++ take n ys ≡ take at xs = ap (λ n. take at xs ++ take n ys) z ∙ append-nil (take at xs) in
    let l : length (take at xs) ≤ BYTES = omega (arith, length-take-le at xs h) in
    subst (λ bs. IfSome a (λ left. bs ≡ take BYTES left)) (sym (take-put_mid_below at k xs ys at (le_refl at) h))
    (all_came a c (take at xs) l (subst (Consumes a c) none (Consumes-trans a b c _ _ p q)) e)
