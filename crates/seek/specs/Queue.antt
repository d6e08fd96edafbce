-- The tiles of an area in a queue: each stands once in the list, and those that hang under it come behind all that stand there already. Assumes nothing.
use Rattle.std.specs.Prelude.{◌≡◌, refl, ◌⊎◌, Some, List, ℕ, zero, suc, ◌+◌, ◌-◌, ◌≤◌, ◌<◌, ◌^◌, ℤ, pos, length, get_or, set, take}
use Rattle.std.proofs.Common.{sym, ap, ◌∙◌, subst, inl, inr, ⊎_elim, arith, length-set, length-take-le, get_or-set_same, get_or-set_other, get_or-take}
use Rattle.ruler.specs.Ruler.{ruler, bits, ruler_pos}
use Rattle.geometry.specs.Cases.{lt_cases}
use Rattle.geometry.specs.Picture.{right}
use Rattle.table.specs.Words.{LEFT, BOTTOM, RIGHT, records_of, num}
use Rattle.table.specs.Sound.{SizeRight, UsedIn}
use Rattle.table.specs.Forms.{Forms}
use Rattle.seek.specs.Meaning.{Area, RectRight, Meets, Root, Hangs}
use Rattle.seek.specs.Find.{Finds}
use Rattle.seek.specs.Walk.{Begins, Goes}
use Rattle.seek.specs.Lists.{Passed}
use Rattle.seek.specs.Hanging.{formed, hangs_beside, parent_one}
use Rattle.seek.specs.Order.{parent}
use Rattle.seek.specs.Each.{Each, each_none, each_same, each_more, each_short}
use Rattle.seek.specs.RightSide.{Walking, Met, Onward, Follows, Floor, left_of_walk, walking_starts, walking_at, walking_goes, walking_after, walking_hangs, walking_hangs_not, walking_on, walking_falls}
use Rattle.seek.specs.Roots.{RootMet, next_root, no_other_root}
use Rattle.seek.specs.declared.side.Walk.{Walk}

-- the record that entry n of a list names
abbrev pub named : List ℤ → ℕ → ℕ
named list n = bits (ruler (get_or list n (pos 0)))

-- ---- an entry is written

abbrev pub put : List ℤ → ℕ → ℕ → List ℤ
put list n k = set list n (pos k)

bits_count : (k : ℕ) → k < 2 ^ 31 → bits (ruler (pos k)) ≡ k
bits_count k h = ap bits (ruler_pos k) ∙ omega arith

put_here : (list : List ℤ) (n k : ℕ) → n < length list → k < 2 ^ 31 → named (put list n k) n ≡ k
put_here list n k l h = ap (λ z. bits (ruler z)) (get_or-set_same list n (pos k) (pos 0) l) ∙ bits_count k h

put_other : (list : List ℤ) (n k m : ℕ) → m < n → named (put list n k) m ≡ named list m
put_other list n k m h = ap (λ z. bits (ruler z)) (get_or-set_other list n m (pos k) (pos 0) (λ q. omega arith))

-- ---- what stands in the queue

-- a root, or a tile that hangs under one of the first i of f
pub data Reached (t : List ℤ) (A : Area) (f : ℕ → ℕ) (i : ℕ) (k : ℕ) : Type 0 where
  root : Root t A k → Reached t A f i k
  hung : (j : ℕ) → j < i → Hangs t A (f j) k → Reached t A f i k

reached_meets : (t : List ℤ) (A : Area) (f : ℕ → ℕ) (i k : ℕ) → Reached t A f i k → Meets t A k
reached_meets t A f i k (root r) = r.meets
reached_meets t A f i k (hung j l h) = h.meets

-- the first n entries are the roots and all that hangs under the first i; every tile of the table has room, and one entry more
pub record Queue (t : List ℤ) (A : Area) (list : List ℤ) (i n : ℕ) : Type 0 where
  pub room : records_of t < length list
  pub to : i ≤ n
  pub are : Each (Reached t A (named list) i) n (named list)

pub queue_meets : (t : List ℤ) (A : Area) (list : List ℤ) (i n : ℕ) → Queue t A list i n → (m : ℕ) → m < n → Meets t A (named list m)
queue_meets t A list i n q m h = reached_meets t A (named list) i (named list m) (q.are.each m h)

pub queue_short : (t : List ℤ) (A : Area) (list : List ℤ) (i n : ℕ) → Queue t A list i n → n ≤ records_of t
queue_short t A list i n q =
    each_short (Reached t A (named list) i) n (named list) q.are (records_of t) (λ k r. (reached_meets t A (named list) i k r).used.below)

-- the first n entries are the tiles of the area, each once
pub record Gathers (t : List ℤ) (A : Area) (list : List ℤ) (n : ℕ) : Type 0 where
  pub few : n ≤ length list
  pub are : Each (Meets t A) n (named list)

pub gathers_front : (t : List ℤ) (A : Area) (list : List ℤ) (n : ℕ) → Gathers t A list n → let front = take n list in
    Each (Meets t A) (length front) (named front)
gathers_front t A list n g =
    subst (λ m. Each (Meets t A) m (named (take n list))) (sym (length-take-le n list g.few))
    (each_same (Meets t A) (Meets t A) n (named list) (named (take n list)) (λ k m. m) (λ k m. m)
    (λ m h. ap (λ z. bits (ruler z)) (get_or-take n list m (pos 0) h)) g.are)

-- ---- the roots

pub record Rooting (t : List ℤ) (A : Area) (start list : List ℤ) (n k y : ℕ) : Type 0 where
  pub used : UsedIn t k
  pub to : y ≤ A.top
  pub long : length list ≡ length start
  pub are : Each (Passed (Root t A) (RootMet t A y)) n (named list)

module _ (t : List ℤ) (f : Forms t) (A : Area) (a : RectRight A) where
  pub rooting_starts : (start : List ℤ) (k : ℕ) → UsedIn t k → Rooting t A start start 0 k A.top
  rooting_starts start k u = record {
    used = u;
    to = omega arith;
    long = refl;
    are = each_none _ (named start) (λ j p. omega (arith, p.is.meets.bottom, a.high, p.met));
  }

  pub rooting_short : (start list : List ℤ) (n k y : ℕ) → Rooting t A start list n k y → n ≤ records_of t
  rooting_short start list n k y r = each_short _ n (named list) r.are (records_of t) (λ j p. p.is.meets.used.below)

  -- the next root is written
  pub rooting_on : SizeRight t → (start list : List ℤ) (n k₀ k y : ℕ) → records_of t < length start → Rooting t A start list n k₀ y → A.bottom < y
      → Finds t A.left (y - 1) k → Rooting t A start (put list n k) (n + 1) k (num t k BOTTOM)
  rooting_on z start list n k₀ k y room r h v = record {
    used = v.used;
    to = omega (arith, v.has, r.to);
    long = length-set list n (pos k) ∙ r.long;
    are = each_more (Passed (Root t A) (RootMet t A y)) (Passed (Root t A) (RootMet t A (num t k BOTTOM))) n k (named list) (named (put list n k)) r.are
        (put_other list n k)
        (put_here list n k (omega (arith, rooting_short start list n k₀ y r, r.long)) (omega (arith, v.used.below, z.most)))
        (λ j p. record { is = p.is; met = omega (arith, v.has, p.met) })
        (record { is = next_root t f A a y k h r.to v; met = omega arith })
        (λ j p. ⊎_elim (λ q. inl (record { is = p.is; met = q })) (λ e. inr e) (no_other_root t f A a y k h r.to v j p.is p.met))
        (λ p. omega (arith, v.has, p.met));
  }

  pub rooting_ends : (start list : List ℤ) (n k y : ℕ) → records_of t < length start → Rooting t A start list n k y → y ≤ A.bottom → Queue t A list 0 n
  rooting_ends start list n k y room r h = record {
    room = omega (arith, r.long);
    to = omega arith;
    are = each_same (Passed (Root t A) (RootMet t A y)) (Reached t A (named list) 0) n (named list) (named list)
        (λ j p. root p.is) met (λ m l. refl) r.are;
  }
    where
      met : (j : ℕ) → Reached t A (named list) 0 j → Passed (Root t A) (RootMet t A y) j
      met j (root q) = record { is = q; met = omega arith }
      met j (hung i l g) = absurd (omega arith)

-- ---- those that hang under entry i

-- they are written as far as the walk has met them
pub record Queueing (t : List ℤ) (A : Area) (start : List ℤ) (i n₀ : ℕ) (list : List ℤ) (n : ℕ) (w : Walk) : Type 0 where
  pub walk : Walking t A (named start i) w
  pub long : length list ≡ length start
  pub more : n₀ ≤ n
  pub kept : (m : ℕ) → m < n₀ → named list m ≡ named start m
  pub are : Each (λ k. Reached t A (named start) i k ⊎ Passed (Hangs t A (named start i)) (Met walk) k) n (named list)

-- nothing hangs under it, or all that does is written
queue_on : (t : List ℤ) (A : Area) (start : List ℤ) (i n₀ : ℕ) (list : List ℤ) (n : ℕ) (P : ℕ → Type 0) → i < n₀ → n₀ ≤ n → records_of t < length list
    → ((m : ℕ) → m < n₀ → named list m ≡ named start m) → ((k : ℕ) → P k → Hangs t A (named start i) k) → ((k : ℕ) → Hangs t A (named start i) k → P k)
    → Each (λ k. Reached t A (named start) i k ⊎ P k) n (named list) → Queue t A list (i + 1) n
queue_on t A start i n₀ list n P l more room kept to from e = record {
  room = room;
  to = omega arith;
  are = each_same (λ k. Reached t A (named start) i k ⊎ P k) (Reached t A (named list) (i + 1)) n (named list) (named list)
      (λ k. ⊎_elim (forth k) (λ p. hung i (omega arith) (subst (λ p. Hangs t A p k) (sym (kept i l)) (to k p))))
      back (λ m h. refl) e;
}
  where
    forth : (k : ℕ) → Reached t A (named start) i k → Reached t A (named list) (i + 1) k
    forth k (root r) = root r
    forth k (hung j h g) = hung j (omega arith) (subst (λ p. Hangs t A p k) (sym (kept j (omega arith))) g)

    back : (k : ℕ) → Reached t A (named list) (i + 1) k → Reached t A (named start) i k ⊎ P k
    back k (root r) = inl (root r)
    back k (hung j h g) =
        lt_cases j i (λ o. inl (hung j o (subst (λ p. Hangs t A p k) (kept j (omega arith)) g)))
        (λ o. let e : j ≡ i = omega arith in inr (from k (subst (λ p. Hangs t A p k) (ap (named list) e ∙ kept i l) g)))

module _ (t : List ℤ) (f : Forms t) (A : Area) (list₀ : List ℤ) (i n₀ : ℕ) (q : Queue t A list₀ i n₀) (l : i < n₀) where
  abbrev p : ℕ
  p = named list₀ i

  meets : Meets t A p
  meets = queue_meets t A list₀ i n₀ q i l

  -- nothing hangs under a tile that ends at the area's right or past it
  pub queue_alone : A.right ≤ num t p RIGHT → Queue t A list₀ (i + 1) n₀
  queue_alone h = queue_on t A list₀ i n₀ list₀ n₀ (Hangs t A p) l (omega arith) q.room (λ m o. refl) (λ k g. g) (λ k g. g)
      (each_same (Reached t A (named list₀) i) _ n₀ (named list₀) (named list₀) (λ k r. inl r)
      (λ k. ⊎_elim (λ r. r) (λ g. absurd (omega (arith, hangs_beside t f A p k g, g.meets.left)))) (λ m o. refl) q.are)

  -- no tile that is reached hangs under it
  reached_not : (k : ℕ) → Reached t A (named list₀) i k → Hangs t A p k → ⊥
  reached_not k (root r) h = omega (arith, r.first, h.further)
  reached_not k (hung j o g) h = omega (arith, q.are.once j i (omega arith) l (parent_one t f A (named list₀ j) p k g h))

  pub queueing_starts : (w : Walk) → Begins t right p w → Queueing t A list₀ i n₀ list₀ n₀ w
  queueing_starts w b =
      let s = walking_starts t f A p meets w b in
      record {
        walk = s.walk;
        long = refl;
        more = omega arith;
        kept = λ m h. refl;
        are = each_same (Reached t A (named list₀) i) _ n₀ (named list₀) (named list₀) (λ k r. inl r)
            (λ k. ⊎_elim (λ r. r) (λ g. absurd (s.none k g.met))) (λ m h. refl) q.are;
      }

  pub queueing_ends : (list : List ℤ) (n : ℕ) (w : Walk) (g : Queueing t A list₀ i n₀ list n w) → ((k : ℕ) → Hangs t A p k → Met g.walk k)
      → Queue t A list (i + 1) n
  queueing_ends list n w g all =
      queue_on t A list₀ i n₀ list n (Passed (Hangs t A p) (Met g.walk)) l g.more (omega (arith, q.room, g.long)) g.kept (λ k h. h.is)
      (λ k h. record { is = h; met = all k h }) g.are

  -- the walk stands at a tile, which is written; it counts only if it hangs under the entry
  module _ (list : List ℤ) (n : ℕ) (w : Walk) (g : Queueing t A list₀ i n₀ list n w) where
    pub queueing_short : n ≤ records_of t
    queueing_short =
        each_short _ n (named list) g.are (records_of t)
        (λ k. ⊎_elim (λ r. (reached_meets t A (named list₀) i k r).used.below) (λ h. h.is.meets.used.below))

    pub queueing_room : n < length list
    queueing_room = omega (arith, queueing_short, q.room, g.long)

    module _ (at : ℕ) (e : w.at ≡ Some at) (w' : Walk) (o : Onward g.walk at w') (z : SizeRight t) where
      here : at < records_of t
      here = (walking_at t f A p meets w g.walk at e).used.below

      kept : (m : ℕ) → m < n₀ → named (put list n at) m ≡ named list₀ m
      kept m h = put_other list n at m (omega (arith, g.more)) ∙ g.kept m h

      -- what the walk has met is not met again
      met_not : Met g.walk at → ⊥
      met_not m = omega (arith, walking_after t f A p meets w g.walk at e at m, formed t f at (walking_at t f A p meets w g.walk at e).used)

      pub queueing_pass : (Hangs t A p at → ⊥) → Queueing t A list₀ i n₀ (put list n at) n w'
      queueing_pass not = record {
        walk = o.walk;
        long = length-set list n (pos at) ∙ g.long;
        more = g.more;
        kept = kept;
        are = each_same _ _ n (named list) (named (put list n at))
            (λ k. ⊎_elim (λ r. inl r) (λ h. inr (record { is = h.is; met = o.grows k h.met })))
            (λ k. ⊎_elim (λ r. inl r) (λ h. inr (record { is = h.is; met = ⊎_elim (λ m. m) (λ d. absurd (not (subst (Hangs t A p) d h.is))) (o.no_other k h.met) })))
            (put_other list n at) g.are;
      }

      pub queueing_more : Hangs t A p at → Queueing t A list₀ i n₀ (put list n at) (n + 1) w'
      queueing_more hangs = record {
        walk = o.walk;
        long = length-set list n (pos at) ∙ g.long;
        more = omega (arith, g.more);
        kept = kept;
        are = each_more _ _ n at (named list) (named (put list n at)) g.are (put_other list n at)
            (put_here list n at queueing_room (omega (arith, here, z.most)))
            (λ k. ⊎_elim (λ r. inl r) (λ h. inr (record { is = h.is; met = o.grows k h.met })))
            (inr (record { is = hangs; met = o.here }))
            (λ k. ⊎_elim (λ r. inl (inl r)) (λ h. ⊎_elim (λ m. inl (inr (record { is = h.is; met = m }))) (λ d. inr d) (o.no_other k h.met)))
            (⊎_elim (λ r. reached_not at r hangs) (λ h. met_not h.met));
      }

    -- a turn of the loop: the tile's row tells whether it hangs under the entry
    module _ (at : ℕ) (e : w.at ≡ Some at) where
      pub queueing_goes : Goes t w
      queueing_goes = walking_goes t f A p meets w g.walk at e

      module _ (w' : Walk) (s : Follows t A.bottom w w') where
        pub queueing_falls : left_of_walk t w' < left_of_walk t w
        queueing_falls = walking_falls t f A p meets w g.walk at e w' s

        module _ (z : SizeRight t) (floor : ℕ) (h : Floor t p A.bottom floor) where
          pub queueing_outside : ((floor ≤ num t at BOTTOM) × (num t at BOTTOM < A.top) → ⊥) → Queueing t A list₀ i n₀ (put list n at) n w'
          queueing_outside miss =
              queueing_pass at e w' (walking_on t f A p meets w g.walk at e w' s) z (λ k. miss (walking_hangs_not t f A p meets w g.walk at e floor h k))

          pub queueing_inside : num t p RIGHT < A.right → (floor ≤ num t at BOTTOM) × (num t at BOTTOM < A.top)
              → Queueing t A list₀ i n₀ (put list n at) (n + 1) w'
          queueing_inside r (l, u) = queueing_more at e w' (walking_on t f A p meets w g.walk at e w' s) z (walking_hangs t f A p meets w g.walk at e floor h r l u)

-- ---- in the end all tiles of the area are reached

module _ (t : List ℤ) (f : Forms t) (A : Area) (a : RectRight A) (list : List ℤ) (n : ℕ) (q : Queue t A list n n) where
  abbrev In : ℕ → Type 0
  In k = (m : ℕ) × (m < n) × (named list m ≡ k)

  -- by the tile that it hangs under, which lies further left
  listed : (x k : ℕ) → num t k LEFT ≤ x → Meets t A k → In k
  listed zero k h m = q.are.all k (root (record { meets = m; first = omega arith }))
  listed (suc x) k h m =
      lt_cases A.left (num t k LEFT)
      (λ o.
      let (p, i, g, l) = parent t f A a k m o in
      let (j, b, d) = listed x p (omega arith) i in
      q.are.all k (hung j b (subst (λ p. Hangs t A p k) (sym d) g)))
      (λ o. q.are.all k (root (record { meets = m; first = o })))

  pub queue_gathers : Gathers t A list n
  queue_gathers = record {
    few = omega (arith, queue_short t A list n n q, q.room);
    are = record {
      each = queue_meets t A list n n q;
      all = λ k m. listed (num t k LEFT) k (omega arith) m;
      once = q.are.once;
    };
  }
