-- A list with some entries written over, and what writing piece after piece leaves. Assumes nothing.
use Rattle.std.specs.Prelude.{◌≡◌, refl, List, [], ◌∷◌, ◌++◌, ℕ, suc, ◌+◌, ◌≤◌, ◌<◌, length, get_or, take, drop, set}
use Rattle.std.proofs.Common.{sym, ap, ◌∙◌, append_assoc, arith, length-append, length-take, length-drop, take-append-drop, length-take-le, drop-drop, take_at}
use Rattle.std.proofs.Math.Seq.{drop-append-add, take-length, paste, paste-suc}
use Rattle.std.proofs.lemmas.List.{set_split}
use borrow.Rule.Slice.PartMut.{put_mid}

-- `old` with `new` from position `at` on
unfoldable pub patch : List ℕ → ℕ → List ℕ → List ℕ
patch old at new = take at old ++ (new ++ drop (at + length new) old)

pub patch_length : (old : List ℕ) (at : ℕ) (new : List ℕ) → at + length new ≤ length old → length (patch old at new) ≡ length old
unfolding patch
patch_length old at new h = simp (length-append, length-take, length-drop) (omega arith)

-- at the start
pub patch_start : (old new : List ℕ) → patch old 0 new ≡ new ++ drop (length new) old
unfolding patch
patch_start old new = let e : 0 + length new ≡ length new = omega arith in ap (λ k. new ++ drop k old) e

-- nothing written
pub patch_none : (old : List ℕ) (at : ℕ) → patch old at [] ≡ old
unfolding patch
patch_none old at = let e : at + 0 ≡ at = omega arith in ap (λ k. take at old ++ drop k old) e ∙ take-append-drop at old

-- what a write to a part of the list leaves
pub patch_mid : (old : List ℕ) (at k : ℕ) (new : List ℕ) → k ≡ length new → put_mid at k old new ≡ patch old at new
unfolding patch
patch_mid old at k new e =
    ap (λ l. take at old ++ (new ++ l)) (drop-drop k at old) ∙ ap (λ n. take at old ++ (new ++ drop (at + n) old)) e

-- one entry
pub patch_one : (old : List ℕ) (at x : ℕ) → at < length old → set old at x ≡ patch old at (x ∷ [])
unfolding patch
patch_one old at x h = let e : suc at ≡ at + 1 = omega arith in set_split old at x h ∙ ap (λ k. take at old ++ x ∷ drop k old) e

-- one piece, then the next right behind it
pub patch_then : (old : List ℕ) (at : ℕ) (a b : List ℕ) (n : ℕ) → n ≡ at + length a → at + length (a ++ b) ≤ length old
    → patch (patch old at a) n b ≡ patch old at (a ++ b)
unfolding patch
patch_then old at a b n e h =
    let la : length (a ++ b) ≡ length a + length b = length-append a b in
    let r : List ℕ = drop (at + length a) old in
    let lt : length (take at old) ≡ at = length-take-le at old (omega arith) in
    let lp : length (take at old ++ a) ≡ n = length-append (take at old) a ∙ omega arith in
    let s : take at old ++ (a ++ r) ≡ (take at old ++ a) ++ r = sym (append_assoc (take at old) a r) in
    let d : drop (n + length b) ((take at old ++ a) ++ r) ≡ drop (length b) r =
    ap (λ k. drop (k + length b) ((take at old ++ a) ++ r)) (sym lp) ∙ drop-append-add (take at old ++ a) r (length b) in
    let k : at + length a + length b ≡ at + length (a ++ b) = omega arith in
    ap (λ l. take n l ++ (b ++ drop (n + length b) l)) s
    ∙ ap (λ l. l ++ (b ++ drop (n + length b) ((take at old ++ a) ++ r))) (take_at (take at old ++ a) r n lp)
    ∙ ap (λ l. (take at old ++ a) ++ (b ++ l)) (d ∙ drop-drop (length b) (at + length a) old ∙ ap (λ j. drop j old) k)
    ∙ append_assoc (take at old) a (b ++ drop (at + length (a ++ b)) old)
    ∙ ap (λ l. take at old ++ l) (sym (append_assoc a b (drop (at + length (a ++ b)) old)))

-- one entry more
pub patch_more : (old : List ℕ) (at : ℕ) (a : List ℕ) (n x : ℕ) → n ≡ at + length a → n < length old
    → set (patch old at a) n x ≡ patch old at (a ++ (x ∷ []))
patch_more old at a n x e h =
    let l : length (patch old at a) ≡ length old = patch_length old at a (omega arith) in
    let k : length (a ++ (x ∷ [])) ≡ length a + 1 = length-append a (x ∷ []) in
    patch_one (patch old at a) n x (omega arith) ∙ patch_then old at a (x ∷ []) n e (omega arith)

pub patch_four : (old : List ℕ) (at a b c d : ℕ) → at + 4 ≤ length old
    → set (set (set (set old at a) (at + 1) b) (at + 2) c) (at + 3) d ≡ patch old at (a ∷ b ∷ c ∷ d ∷ [])
patch_four old at a b c d h =
    ap (λ l. set (set (set l (at + 1) b) (at + 2) c) (at + 3) d) (patch_one old at a (omega arith))
    ∙ ap (λ l. set (set l (at + 2) c) (at + 3) d) (patch_more old at (a ∷ []) (at + 1) b refl (omega arith))
    ∙ ap (λ l. set l (at + 3) d) (patch_more old at (a ∷ b ∷ []) (at + 2) c refl (omega arith))
    ∙ patch_more old at (a ∷ b ∷ c ∷ []) (at + 3) d refl (omega arith)

-- what a function that writes `text` at `at` and answers the next position leaves
pub record Puts (old new : List ℕ) (at : ℕ) (text : List ℕ) (r : ℕ) : Type 0 where
  pub is : new ≡ patch old at text
  pub next : r ≡ at + length text

-- one text, then another right behind it
pub puts_then : (old mid new : List ℕ) (at n r : ℕ) (a b : List ℕ) → r ≤ length old → Puts old mid at a n → Puts mid new n b r → Puts old new at (a ++ b) r
puts_then old mid new at n r a b h p q =
    let l = length-append a b in
    record {
      is = q.is ∙ ap (λ o. patch o n b) p.is ∙ patch_then old at a b n p.next (omega (arith, p.next, q.next));
      next = omega (arith, p.next, q.next);
    }

pub puts_one : (old : List ℕ) (at x : ℕ) → at < length old → Puts old (set old at x) at (x ∷ []) (at + 1)
puts_one old at x h = record { is = patch_one old at x h; next = refl }

-- ---- writing a text entry by entry: i of them are written

pub pasted_more : (old : List ℕ) (at : ℕ) (text : List ℕ) (i : ℕ) → at + length text ≤ length old → i < length text
    → set (paste old at text i) (at + i) (get_or text i 0) ≡ paste old at text (i + 1)
pasted_more old at text i h k =
    let q : suc i ≡ i + 1 = omega arith in paste-suc old at text i 0 (omega arith) k ∙ ap (paste old at text) q

pub pasted_all : (old : List ℕ) (at : ℕ) (text : List ℕ) (i : ℕ) → i ≡ length text → paste old at text i ≡ patch old at text
unfolding patch
pasted_all old at text i e =
    ap (paste old at text) e ∙ ap (λ l. (take at old ++ l) ++ drop (at + length text) old) (take-length text)
    ∙ append_assoc (take at old) text (drop (at + length text) old)
