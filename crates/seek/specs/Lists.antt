-- Lists of records in an order: how one grows record by record, and that there is only one. Assumes nothing.
use Rattle.std.specs.Prelude.{◌≡◌, refl, ◌⊎◌, List, [], ◌∷◌, ◌++◌, ℕ, zero, suc, ◌+◌, ◌≤◌, ◌<◌, length, get_or}
use Rattle.std.proofs.Common.{sym, ◌∙◌, subst, subst₂, ⊎_elim, arith, length-append, ext_get_or}
use Rattle.std.proofs.Math.ListN.{get_or-append}
use Rattle.std.proofs.lemmas.List.{get_or_at}
use Rattle.geometry.specs.Cases.{lt_cases, eq_cases, below_suc}
use Rattle.seek.specs.Meaning.{Lists}

-- those of the records with Q that are met already
pub record Passed (Q Met : ℕ → Type 0) (k : ℕ) : Type 0 where
  pub is : Q k
  pub met : Met k

pub lists_none : (Q : ℕ → Type 0) (Precedes : ℕ → ℕ → Type 0) → ((k : ℕ) → Q k → ⊥) → Lists Q Precedes []
lists_none Q Precedes empty = record { each = λ n h. absurd (omega arith); all = λ k q. absurd (empty k q); order = λ m n h l. absurd (omega arith) }

-- the same records by another name
pub lists_same : (Q Q' : ℕ → Type 0) (Precedes : ℕ → ℕ → Type 0) (ks : List ℕ) → ((k : ℕ) → Q k → Q' k) → ((k : ℕ) → Q' k → Q k)
    → Lists Q Precedes ks → Lists Q' Precedes ks
lists_same Q Q' Precedes ks to from l = record { each = λ n h. to _ (l.each n h); all = λ k q. l.all k (from k q); order = l.order }

-- ---- one record more, after those that come before it

module _ (Q Q' : ℕ → Type 0) (Precedes : ℕ → ℕ → Type 0) (ks : List ℕ) (k : ℕ) (l : Lists Q Precedes ks)
    (old : (j : ℕ) → Q j → Q' j) (one : Q' k) (no_other : (j : ℕ) → Q' j → Q j ⊎ (j ≡ k)) (after : (j : ℕ) → Q j → Precedes j k) where
  abbrev more : List ℕ
  more = ks ++ k ∷ []

  more_length : length more ≡ length ks + 1
  more_length = length-append ks (k ∷ [])

  before : (n : ℕ) → n < length ks → get_or more n 0 ≡ get_or ks n 0
  before n h = get_or-append ks (k ∷ []) 0 n h

  last : (n : ℕ) → n ≡ length ks → get_or more n 0 ≡ k
  last n e = get_or_at ks k [] 0 n (sym e)

  at : {C : Type 0} (n : ℕ) → n < length more → (n < length ks → C) → (n ≡ length ks → C) → C
  at n h f g = lt_cases n (length ks) f (λ o. g (omega (arith, more_length)))

  pub lists_more : Lists Q' Precedes (ks ++ k ∷ [])
  lists_more = record {
    each = λ n h. at n h (λ o. subst Q' (sym (before n o)) (old _ (l.each n o))) (λ e. subst Q' (sym (last n e)) one);
    all = λ j q. ⊎_elim
        (λ p. let (n, o, e) = l.all j p in (n, omega (arith, more_length), before n o ∙ e))
        (λ e. (length ks, omega (arith, more_length), last (length ks) refl ∙ sym e))
        (no_other j q);
    order = λ m n h i. at n i
        (λ o. subst₂ Precedes (sym (before m (omega arith))) (sym (before n o)) (l.order m n h o))
        (λ e. subst₂ Precedes (sym (before m (omega arith))) (sym (last n e)) (after _ (l.each m (omega arith))));
  }

-- ---- there is only one such list, where no two records come before each other

module _ (Q : ℕ → Type 0) (Precedes : ℕ → ℕ → Type 0) (not_both : (j k : ℕ) → Q j → Q k → Precedes j k → Precedes k j → ⊥) where
  -- the entry at n, where the entries before it agree
  here : (ks ls : List ℕ) → Lists Q Precedes ks → Lists Q Precedes ls → (n : ℕ) → n < length ks
      → ((i : ℕ) → i < n → (i < length ls) × (get_or ks i 0 ≡ get_or ls i 0)) → (n < length ls) × (get_or ks n 0 ≡ get_or ls n 0)
  here ks ls k l n h agree =
      let (m, o, e) = l.all _ (k.each n h) in
      lt_cases m n
      (λ c.
      let p : Precedes (get_or ks m 0) (get_or ks n 0) = k.order m n c h in
      let d : get_or ks m 0 ≡ get_or ks n 0 = (agree m c).1 ∙ e in
      absurd (not_both _ _ (k.each n h) (k.each n h) (subst (λ j. Precedes j (get_or ks n 0)) d p) (subst (λ j. Precedes j (get_or ks n 0)) d p)))
      (λ c. eq_cases m n
      (λ d. (omega arith, sym (subst (λ m. get_or ls m 0 ≡ get_or ks n 0) d e)))
      (λ d.
      let q : Precedes (get_or ls n 0) (get_or ks n 0) = subst (Precedes (get_or ls n 0)) e (l.order n m (omega arith) o) in
      let (m', o', e') = k.all _ (l.each n (omega arith)) in
      lt_cases m' n
      (λ c'. absurd (let f : get_or ls m' 0 ≡ get_or ls n 0 = sym (agree m' c').1 ∙ e' in
      let p : Precedes (get_or ls n 0) (get_or ls n 0) = subst (λ j. Precedes j (get_or ls n 0)) f (l.order m' n c' (omega arith)) in
      not_both _ _ (l.each n (omega arith)) (l.each n (omega arith)) p p))
      (λ c'. eq_cases m' n
      (λ d'. (omega arith, subst (λ m. get_or ks m 0 ≡ get_or ls n 0) d' e'))
      (λ d'. absurd (not_both _ _ (l.each n (omega arith)) (k.each n h) q (subst (Precedes (get_or ks n 0)) e' (k.order n m' (omega arith) o')))))))

  agree_to : (ks ls : List ℕ) → Lists Q Precedes ks → Lists Q Precedes ls → (n : ℕ) → n ≤ length ks
      → (i : ℕ) → i < n → (i < length ls) × (get_or ks i 0 ≡ get_or ls i 0)
  agree_to ks ls k l zero h i o = absurd (omega arith)
  agree_to ks ls k l (suc n) h i o =
      below_suc i n o (λ c. agree_to ks ls k l n (omega arith) i c)
      (λ e. subst (λ i. (i < length ls) × (get_or ks i 0 ≡ get_or ls i 0)) (sym e) (here ks ls k l n (omega arith) (agree_to ks ls k l n (omega arith))))

  not_longer : (ks ls : List ℕ) → Lists Q Precedes ks → Lists Q Precedes ls → length ks ≤ length ls
  not_longer ks ls k l =
      lt_cases (length ls) (length ks) (λ h. absurd (omega (arith, (agree_to ks ls k l (length ks) (omega arith) (length ls) h).0))) (λ h. h)

  pub lists_one : (ks ls : List ℕ) → Lists Q Precedes ks → Lists Q Precedes ls → ks ≡ ls
  lists_one ks ls k l =
      ext_get_or 0 ks ls (omega (arith, not_longer ks ls k l, not_longer ls ks l k)) (λ n h. (agree_to ks ls k l (length ks) (omega arith) n h).1)
