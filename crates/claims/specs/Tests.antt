-- Tests that compute what a table written out draws, and what its lists are: so that a drawn example is a computation. Assumes nothing.
use Rattle.std.specs.Prelude.{◌≡◌, Bool, true, false, not, ◌&&◌, ◌||◌, List, [], ◌∷◌, ℕ, zero, suc, ◌-◌, ◌<◌, max, ℤ, length, get_or, T, leb, ltb}
use Rattle.std.proofs.Common.{sym, subst, arith, leb→le, T_not}
use mathlib.Core.List.Memᴰ
use Rattle.std.proofs.Math.Dec.{eqb, eqb→eq}
use Rattle.geometry.specs.Cases.{T_and, and_l, and_r}
use Rattle.geometry.specs.Picture.{SOLID, Tile, top}
use Rattle.geometry.specs.Tiling.{tile_ext, paint_ext, eq→eqb}
use Rattle.table.specs.Words.{LEFT, BOTTOM, RIGHT, TOP, KIND, records_of, num, tile_of}
use Rattle.table.specs.Sound.{UsedIn, solid_at, SolidIn}
use Rattle.table.specs.Forms.{is_used, used_is}
use Rattle.table.specs.Decide.{all_below, all_below_lem, or_cases, le_T, usedb, hasb, hasb_has, has_hasb}
use Rattle.seek.specs.Meaning.{Area, Lists, Over, Meets, Root, Hangs}
use Rattle.seek.specs.Find.{Finds}
use Rattle.seek.specs.Neighbours
use Rattle.seek.specs.Neighbours.{Touches, Neighbour, Neighbours}
use Rattle.ushanderi.specs.Promises.{Fit}
use Rattle.claims.specs.History.{Among}
use Rattle.claims.specs.Terms.{Shows}
use Rattle.claims.specs.Drawing.{Draws}

-- some number below n passes
unfoldable pub some_below : (ℕ → Bool) → ℕ → Bool
some_below p zero = false
some_below p (suc n) = p n || some_below p n

some_below_lem : (p : ℕ → Bool) (n : ℕ) → T (some_below p n) → (k : ℕ) × (k < n) × T (p k)
unfolding some_below
some_below_lem p (suc n) b =
    or_cases (p n) (some_below p n) b (λ c. (n, omega arith, c)) (λ c. let (k, h, d) = some_below_lem p n c in (k, omega arith, d))
some_below_lem p zero b = elim b [ ]

-- ---- what a table draws

abbrev tileb : Tile → Tile → Bool
tileb v w =
    eqb v.left w.left && (eqb v.bottom w.bottom && (eqb v.right w.right
    && (eqb v.top w.top && (eqb v.paint.kind w.paint.kind && eqb v.paint.label w.paint.label))))

tileb_same : (v w : Tile) → T (tileb v w) → v ≡ w
tileb_same v w b =
    tile_ext v w (search (and_l, and_r, eqb→eq) depth 9)
    (paint_ext v.paint w.paint (search (and_l, and_r, eqb→eq) depth 9) (search (and_l, and_r, eqb→eq) depth 9))

unfoldable pub amongb : Tile → List Tile → Bool
amongb v [] = false
amongb v (w ∷ vs) = tileb v w || amongb v vs

amongb_among : (v : Tile) (vs : List Tile) → T (amongb v vs) → Among vs v
unfolding amongb
amongb_among v (w ∷ vs) b =
    or_cases (tileb v w) (amongb v vs) b (λ c. Memᴰ.head (tileb_same v w c)) (λ c. Memᴰ.tail (amongb_among v vs c))
amongb_among v [] b = elim b [ ]

-- record i is the solid v
abbrev isb : List ℤ → Tile → ℕ → Bool
isb t v i = solid_at t i && tileb (tile_of t i) v

unfoldable pub shownb : List ℤ → List Tile → Bool
unfolding some_below
shownb t [] = true
shownb t (v ∷ vs) = some_below (isb t v) (records_of t) && shownb t vs

shownb_shows : (t : List ℤ) (vs : List Tile) → T (shownb t vs) → (v : Tile) → Among vs v → Shows t v
unfolding shownb
shownb_shows t (w ∷ vs) b v (Memᴰ.head e) =
    let (i, h, c) = some_below_lem (isb t w) (records_of t) (and_l (some_below (isb t w) (records_of t)) (shownb t vs) b) in
    record {
      at = i;
      solid = record { below = h; kind = eqb→eq (num t i KIND) SOLID (and_l (solid_at t i) (tileb (tile_of t i) w) c) };
      is = subst (λ w. tile_of t i ≡ w) (sym e) (tileb_same (tile_of t i) w (and_r (solid_at t i) (tileb (tile_of t i) w) c));
    }
shownb_shows t (w ∷ vs) b v (Memᴰ.tail m) =
    shownb_shows t vs (and_r (some_below (isb t w) (records_of t)) (shownb t vs) b) v m
shownb_shows t [] b v x'' = elim x'' [ ]

-- every solid is among them, and each of them is a solid
abbrev memberb : List ℤ → List Tile → ℕ → Bool
memberb t vs i = not (solid_at t i) || amongb (tile_of t i) vs

unfoldable pub drawsb : List ℤ → List Tile → Bool
unfolding all_below amongb shownb
drawsb t vs = all_below (memberb t vs) (records_of t) && shownb t vs

pub drawsb_draws : (t : List ℤ) (vs : List Tile) → Fit t → T (drawsb t vs) → Draws t vs
unfolding drawsb
drawsb_draws t vs f b = record { fit = f; each = each; all = shownb_shows t vs (and_r (all_below (memberb t vs) (records_of t)) (shownb t vs) b) }
  where
    each : (i : ℕ) → SolidIn t i → Among vs (tile_of t i)
    each i s =
        or_cases (not (solid_at t i)) (amongb (tile_of t i) vs) (all_below_lem (memberb t vs) (records_of t) (and_l (all_below (memberb t vs) (records_of t)) (shownb t vs) b) i s.below)
        (λ c. absurd (T_not (solid_at t i) c (eq→eqb (num t i KIND) SOLID s.kind))) (λ c. amongb_among (tile_of t i) vs c)

-- ---- lists of records

abbrev entryb : (ℕ → Bool) → ℕ → List ℕ → ℕ → Bool
entryb q R ks n = ltb (get_or ks n 0) R && q (get_or ks n 0)

abbrev foundb : (ℕ → Bool) → List ℕ → ℕ → Bool
foundb q ks k = not (q k) || some_below (λ n. eqb (get_or ks n 0) k) (length ks)

abbrev orderb : (ℕ → ℕ → Bool) → List ℕ → ℕ → Bool
orderb p ks n = all_below (λ m. p (get_or ks m 0) (get_or ks n 0)) n

unfoldable pub listsb : (ℕ → Bool) → (ℕ → ℕ → Bool) → ℕ → List ℕ → Bool
unfolding all_below some_below
listsb q p R ks = all_below (entryb q R ks) (length ks) && (all_below (foundb q ks) R && all_below (orderb p ks) (length ks))

module _ (Q : ℕ → Type 0) (P : ℕ → ℕ → Type 0) (q : ℕ → Bool) (p : ℕ → ℕ → Bool) (R : ℕ) (yes : (k : ℕ) → k < R → T (q k) → Q k)
    (no : (k : ℕ) → Q k → (k < R) × T (q k)) (before : (j k : ℕ) → T (p j k) → P j k) (ks : List ℕ) where
  pub listsb_lists : T (listsb q p R ks) → Lists Q P ks
  unfolding listsb
  listsb_lists b =
      let e = all_below (entryb q R ks) (length ks) in
      let f = all_below (foundb q ks) R in
      let o = all_below (orderb p ks) (length ks) in
      record {
        each = λ n h.
            let c = all_below_lem (entryb q R ks) (length ks) (and_l e (f && o) b) n h in
            yes (get_or ks n 0) (leb→le (suc (get_or ks n 0)) R (and_l (ltb (get_or ks n 0) R) (q (get_or ks n 0)) c)) (and_r (ltb (get_or ks n 0) R) (q (get_or ks n 0)) c);
        all = λ k u.
            let (h, c) = no k u in
            or_cases (not (q k)) (some_below (λ n. eqb (get_or ks n 0) k) (length ks)) (all_below_lem (foundb q ks) R (and_l f o (and_r e (f && o) b)) k h)
            (λ d. absurd (T_not (q k) d c))
            (λ d. let (n, l, w) = some_below_lem (λ n. eqb (get_or ks n 0) k) (length ks) d in (n, l, eqb→eq (get_or ks n 0) k w));
        order = λ m n h l.
            before (get_or ks m 0) (get_or ks n 0)
            (all_below_lem (λ m. p (get_or ks m 0) (get_or ks n 0)) n (all_below_lem (orderb p ks) (length ks) (and_r f o (and_r e (f && o) b)) n l) m h);
      }

-- ---- one record

usedb_used : (t : List ℤ) (k : ℕ) → k < records_of t → T (usedb t k) → UsedIn t k
usedb_used t k h b = is_used t k (record { below = h; used = b })

used_usedb : (t : List ℤ) (k : ℕ) → UsedIn t k → T (usedb t k)
used_usedb t k u = (used_is t k u).used

record Across (t : List ℤ) (A : Area) (k : ℕ) : Type 0 where
  left : num t k LEFT < A.right
  right : A.left < num t k RIGHT
  bottom : num t k BOTTOM < A.top
  top : A.bottom < num t k TOP

abbrev acrossb : List ℤ → Area → ℕ → Bool
acrossb t A k = ltb (num t k LEFT) A.right && (ltb A.left (num t k RIGHT) && (ltb (num t k BOTTOM) A.top && ltb A.bottom (num t k TOP)))

acrossb_across : (t : List ℤ) (A : Area) (k : ℕ) → T (acrossb t A k) → Across t A k
acrossb_across t A k b = search (and_l, and_r, leb→le) depth 9

across_acrossb : (t : List ℤ) (A : Area) (k : ℕ) → Across t A k → T (acrossb t A k)
across_acrossb t A k a = search (T_and, le_T)

unfoldable pub meetsb : List ℤ → Area → ℕ → Bool
meetsb t A k = usedb t k && acrossb t A k

meetsb_meets : (t : List ℤ) (A : Area) (k : ℕ) → k < records_of t → T (meetsb t A k) → Meets t A k
unfolding meetsb
meetsb_meets t A k h b =
    let a = acrossb_across t A k (and_r (usedb t k) (acrossb t A k) b) in
    record { used = usedb_used t k h (and_l (usedb t k) (acrossb t A k) b); left = a.left; right = a.right; bottom = a.bottom; top = a.top }

meets_meetsb : (t : List ℤ) (A : Area) (k : ℕ) → Meets t A k → T (meetsb t A k)
unfolding meetsb
meets_meetsb t A k m =
    T_and (usedb t k) (acrossb t A k) (used_usedb t k m.used)
    (across_acrossb t A k (record { left = m.left; right = m.right; bottom = m.bottom; top = m.top }))

unfoldable pub rootb : List ℤ → Area → ℕ → Bool
unfolding meetsb
rootb t A k = meetsb t A k && leb (num t k LEFT) A.left

abbrev overb : List ℤ → ℕ → ℕ → Bool
overb t j k = leb (num t k TOP) (num t j BOTTOM)

pub rootsb_lists : (t : List ℤ) (A : Area) (ks : List ℕ) → T (listsb (rootb t A) (overb t) (records_of t) ks) → Lists (Root t A) (Over t) ks
unfolding rootb
rootsb_lists t A =
    listsb_lists (Root t A) (Over t) (rootb t A) (overb t) (records_of t)
    (λ k h b. record {
      meets = meetsb_meets t A k h (and_l (meetsb t A k) (leb (num t k LEFT) A.left) b);
      first = leb→le (num t k LEFT) A.left (and_r (meetsb t A k) (leb (num t k LEFT) A.left) b);
    })
    (λ k r. (r.meets.used.below, T_and (meetsb t A k) (leb (num t k LEFT) A.left) (meets_meetsb t A k r.meets) (le_T (num t k LEFT) A.left r.first)))
    (λ j k b. leb→le (num t k TOP) (num t j BOTTOM) b)

-- ---- the tile that holds a cell

unfoldable pub findsb : List ℤ → ℕ → ℕ → ℕ → Bool
findsb t x y i = ltb i (records_of t) && (usedb t i && hasb t i x y)

pub findsb_finds : (t : List ℤ) (x y i : ℕ) → T (findsb t x y i) → Finds t x y i
unfolding findsb
findsb_finds t x y i b =
    let c = and_r (ltb i (records_of t)) (usedb t i && hasb t i x y) b in
    record {
      used = usedb_used t i (leb→le (suc i) (records_of t) (and_l (ltb i (records_of t)) (usedb t i && hasb t i x y) b)) (and_l (usedb t i) (hasb t i x y) c);
      has = hasb_has t i x y (and_r (usedb t i) (hasb t i x y) c);
    }

-- a tile beyond the area's left, and its parent
abbrev beyondb : List ℤ → Area → ℕ → ℕ → Bool
beyondb t A p k = ltb A.left (num t k LEFT) && hasb t p (num t k LEFT - 1) (max (num t k BOTTOM) A.bottom)

unfoldable pub hangsb : List ℤ → Area → ℕ → ℕ → Bool
unfolding meetsb
hangsb t A p k = meetsb t A k && beyondb t A p k

lists_hanging : (t : List ℤ) (A : Area) (p : ℕ) (ks : List ℕ) → UsedIn t p → T (listsb (hangsb t A p) (overb t) (records_of t) ks)
    → Lists (Hangs t A p) (Over t) ks
unfolding hangsb
lists_hanging t A p ks u =
    listsb_lists (Hangs t A p) (Over t) (hangsb t A p) (overb t) (records_of t)
    (λ k h b.
    let c = and_r (meetsb t A k) (beyondb t A p k) b in
    let x = num t k LEFT - 1 in
    let y = max (num t k BOTTOM) A.bottom in
    record {
      meets = meetsb_meets t A k h (and_l (meetsb t A k) (beyondb t A p k) b);
      further = leb→le (suc A.left) (num t k LEFT) (and_l (ltb A.left (num t k LEFT)) (hasb t p x y) c);
      used = u;
      has = hasb_has t p x y (and_r (ltb A.left (num t k LEFT)) (hasb t p x y) c);
    })
    (λ k h.
    let x = num t k LEFT - 1 in
    let y = max (num t k BOTTOM) A.bottom in (
      h.meets.used.below,
      T_and (meetsb t A k) (beyondb t A p k) (meets_meetsb t A k h.meets)
          (T_and (ltb A.left (num t k LEFT)) (hasb t p x y) (le_T (suc A.left) (num t k LEFT) h.further) (has_hasb t p x y h.has)),
    ))
    (λ j k b. leb→le (num t k TOP) (num t j BOTTOM) b) ks

abbrev underb : List ℤ → Area → ℕ → List ℕ → Bool
underb t A p ks = (ltb p (records_of t) && usedb t p) && listsb (hangsb t A p) (overb t) (records_of t) ks

pub hangsb_lists : (t : List ℤ) (A : Area) (p : ℕ) (ks : List ℕ) → T (underb t A p ks) → Lists (Hangs t A p) (Over t) ks
hangsb_lists t A p ks b =
    let u = ltb p (records_of t) && usedb t p in
    let l = listsb (hangsb t A p) (overb t) (records_of t) ks in
    lists_hanging t A p ks
    (usedb_used t p (leb→le (suc p) (records_of t) (and_l (ltb p (records_of t)) (usedb t p) (and_l u l b))) (and_r (ltb p (records_of t)) (usedb t p) (and_l u l b)))
    (and_r u l b)

-- ---- neighbours on top

abbrev standsb : List ℤ → ℕ → ℕ → Bool
standsb t i k = eqb (num t k BOTTOM) (num t i TOP) && (ltb (num t i LEFT) (num t k RIGHT) && ltb (num t k LEFT) (num t i RIGHT))

standsb_touches : (t : List ℤ) (i k : ℕ) → T (standsb t i k) → Touches top (tile_of t i) (tile_of t k)
standsb_touches t i k b = search (and_l, and_r, eqb→eq, leb→le) depth 9

touches_standsb : (t : List ℤ) (i k : ℕ) → Touches top (tile_of t i) (tile_of t k) → T (standsb t i k)
touches_standsb t i k m = search (T_and, eq→eqb, le_T)

unfoldable pub on_topb : List ℤ → ℕ → ℕ → Bool
on_topb t i k = usedb t k && standsb t i k

abbrev leftwardsb : List ℤ → ℕ → ℕ → Bool
leftwardsb t j k = leb (num t k RIGHT) (num t j LEFT)

pub on_topb_neighbours : (t : List ℤ) (i : ℕ) (ks : List ℕ) → T (listsb (on_topb t i) (leftwardsb t) (records_of t) ks) → Neighbours t top i ks
unfolding on_topb
on_topb_neighbours t i ks b =
    let l = listsb_lists (Neighbour t top i) (λ j k. Neighbours.Before top (tile_of t j) (tile_of t k)) (on_topb t i) (leftwardsb t) (records_of t)
    (λ k h b. record { used = usedb_used t k h (and_l (usedb t k) (standsb t i k) b); touches = standsb_touches t i k (and_r (usedb t k) (standsb t i k) b) })
    (λ k n. (n.used.below, T_and (usedb t k) (standsb t i k) (used_usedb t k n.used) (touches_standsb t i k n.touches)))
    (λ j k b. leb→le (num t k RIGHT) (num t j LEFT) b) ks b in
    record { each = l.each; all = l.all; order = l.order }
