-- A table is sound exactly where it passes the test of specs/Decide. Assumes nothing.
use Rattle.std.specs.Prelude.{◌≡◌, Bool, false, not, ◌&&◌, ◌||◌, List, ℕ, suc, ◌-◌, ◌*◌, ◌≤◌, ◌<◌, max, ℤ, ltb}
use Rattle.std.proofs.Common.{arith, leb→le, eqb→eq}
use Rattle.std.proofs.Math.Bool.{true, cond}
use Rattle.std.proofs.Math.Dec.{T, leb, eqb, not_T, T_not}
use Rattle.geometry.specs.Cases.{lt_cases, T_and, and_l, and_r, T_of}
use Rattle.geometry.specs.Picture.{ZERO, FREE, SPACE, SOLID, InPlane}
use Rattle.geometry.specs.Plane.{Plane, Is, Holds, Formed, WellFormed, Disjoint, area, exact_area, cover_from_area}
use Rattle.geometry.specs.Strips.{Strips, Space}
use Rattle.geometry.specs.Tiling.{solids_of, Kinded, Widest, eq→eqb}
use Rattle.geometry.specs.WidestDrawn.{widest_drawn}
use Rattle.geometry.specs.DrawnWidest.{drawn_widest, drawn_count}
use Rattle.table.specs.Words.{WIDTH, LEFT, BOTTOM, RIGHT, TOP, KIND, LABEL, records_of, num, tile_of}
use Rattle.table.specs.Sound.{capacity, Named, NONE, Names, Stitched, Zeros, Sound, solids_in}
use Rattle.table.specs.Forms.{plane_in, is_used, used_is}
use Rattle.table.specs.Decide.{all_below, all_below_lem, below_all, or_cases, le_T, usedb, solidb, zerob, formedb, kindedb, insideb, hasb, namedb, namesb, hasb_has, has_hasb, stitchedb, recordb, apartb, besideb, mergedb, pairb, soundb}

-- ---- tests and what they say

then_T : (a b c : Bool) → T (cond a b c) → T a → T b
then_T true b c t u = t
then_T false b c t u = elim u [ ]

else_T : (a b c : Bool) → T (cond a b c) → T (not a) → T c
else_T false b c t u = t
else_T true b c t u = elim u [ ]

T_cond : (a b c : Bool) → (T a → T b) → (T (not a) → T c) → T (cond a b c)
T_cond true b c f g = f tt
T_cond false b c f g = g tt

or_else : (a b : Bool) → (T (not a) → T b) → T (a || b)
or_else true b f = tt
or_else false b f = f tt

or_le : {C : Type 0} (m n : ℕ) (b : Bool) → T (leb m n || b) → (m ≤ n → C) → (T b → C) → C
or_le m n b t f g = or_cases (leb m n) b t (λ h. f (leb→le m n h)) g

le_or : (m n : ℕ) (b : Bool) → (n < m → T b) → T (leb m n || b)
le_or m n b f = or_else (leb m n) b (λ h. f (lt_cases n m (λ k. k) (λ k. absurd (T_not (leb m n) h (le_T m n k)))))

eq_or : (m n : ℕ) (b : Bool) → ((m ≡ n → ⊥) → T b) → T (eqb m n || b)
eq_or m n b f = or_else (eqb m n) b (λ h. f (λ e. T_not (eqb m n) h (eq→eqb m n e)))

-- ---- one record

zerob_zeros : (t : List ℤ) (i : ℕ) → T (zerob t i) → Zeros t i
unfolding zerob
zerob_zeros t i b k h = eqb→eq (num t i k) ZERO (all_below_lem (λ k. eqb (num t i k) ZERO) WIDTH b k h)

zeros_zerob : (t : List ℤ) (i : ℕ) → Zeros t i → T (zerob t i)
unfolding zerob
zeros_zerob t i z = below_all (λ k. eqb (num t i k) ZERO) WIDTH (λ k h. eq→eqb (num t i k) ZERO (z k h))

formedb_formed : (t : List ℤ) (i : ℕ) → T (formedb t i) → Formed (plane_in t) i
unfolding formedb
formedb_formed t i b = search (and_l, and_r, leb→le) depth 9

formed_formedb : (t : List ℤ) (i : ℕ) → Formed (plane_in t) i → T (formedb t i)
unfolding formedb
formed_formedb t i f = search (T_and, le_T)

kindedb_kinded : (t : List ℤ) (i : ℕ) → T (kindedb t i) → Kinded (tile_of t i)
unfolding kindedb
kindedb_kinded t i b =
    or_cases (eqb (num t i KIND) SPACE && eqb (num t i LABEL) ZERO) (eqb (num t i KIND) SOLID && ltb ZERO (num t i LABEL)) b
    (λ h. Kinded.space (record {
      kind = eqb→eq (num t i KIND) SPACE (and_l (eqb (num t i KIND) SPACE) (eqb (num t i LABEL) ZERO) h);
      label = eqb→eq (num t i LABEL) ZERO (and_r (eqb (num t i KIND) SPACE) (eqb (num t i LABEL) ZERO) h);
    }))
    (λ h. Kinded.solid (record {
      kind = eqb→eq (num t i KIND) SOLID (and_l (eqb (num t i KIND) SOLID) (ltb ZERO (num t i LABEL)) h);
      label = leb→le (suc ZERO) (num t i LABEL) (and_r (eqb (num t i KIND) SOLID) (ltb ZERO (num t i LABEL)) h);
    }))

kinded_kindedb : (t : List ℤ) (i : ℕ) → Kinded (tile_of t i) → T (kindedb t i)
unfolding kindedb
kinded_kindedb t i (Kinded.space p) =
    or_else (eqb (num t i KIND) SPACE && eqb (num t i LABEL) ZERO) (eqb (num t i KIND) SOLID && ltb ZERO (num t i LABEL))
    (λ n. absurd (T_not (eqb (num t i KIND) SPACE && eqb (num t i LABEL) ZERO) n
    (T_and (eqb (num t i KIND) SPACE) (eqb (num t i LABEL) ZERO) (eq→eqb (num t i KIND) SPACE p.kind) (eq→eqb (num t i LABEL) ZERO p.label))))
kinded_kindedb t i (Kinded.solid p) =
    or_else (eqb (num t i KIND) SPACE && eqb (num t i LABEL) ZERO) (eqb (num t i KIND) SOLID && ltb ZERO (num t i LABEL))
    (λ n. T_and (eqb (num t i KIND) SOLID) (ltb ZERO (num t i LABEL)) (eq→eqb (num t i KIND) SOLID p.kind) (le_T (suc ZERO) (num t i LABEL) p.label))

-- ---- one stitch

insideb_in : (x y : ℕ) → T (insideb x y) → InPlane x y
insideb_in x y b = search (and_l, and_r, leb→le) depth 9

in_insideb : (x y : ℕ) → InPlane x y → T (insideb x y)
in_insideb x y p = search (T_and, le_T)

namedb_named : (t : List ℤ) (w x y : ℕ) → T (namedb t w x y) → Named t w x y
unfolding namedb
namedb_named t w x y b =
    let i = w - ZERO in
    let b₁ = and_r (leb ZERO w) (ltb i (records_of t) && (usedb t i && hasb t i x y)) b in
    let b₂ = and_r (ltb i (records_of t)) (usedb t i && hasb t i x y) b₁ in
    record {
      from = leb→le ZERO w (and_l (leb ZERO w) (ltb i (records_of t) && (usedb t i && hasb t i x y)) b);
      used =
          is_used t i
          (record { below = leb→le (suc i) (records_of t) (and_l (ltb i (records_of t)) (usedb t i && hasb t i x y) b₁); used = and_l (usedb t i) (hasb t i x y) b₂ });
      has = hasb_has t i x y (and_r (usedb t i) (hasb t i x y) b₂);
    }

named_namedb : (t : List ℤ) (w x y : ℕ) → Named t w x y → T (namedb t w x y)
unfolding namedb
named_namedb t w x y n =
    let i = w - ZERO in
    T_and (leb ZERO w) (ltb i (records_of t) && (usedb t i && hasb t i x y)) (le_T ZERO w n.from)
    (T_and (ltb i (records_of t)) (usedb t i && hasb t i x y) (le_T (suc i) (records_of t) n.used.below)
    (T_and (usedb t i) (hasb t i x y) (used_is t i n.used).used (has_hasb t i x y n.has)))

namesb_names : (t : List ℤ) (w x y : ℕ) → T (namesb t w x y) → Names t w x y
unfolding namesb
namesb_names t w x y b =
    record {
      inside = λ p. namedb_named t w x y (then_T (insideb x y) (namedb t w x y) (eqb w NONE) b (in_insideb x y p));
      outside = λ n. eqb→eq w NONE (else_T (insideb x y) (namedb t w x y) (eqb w NONE) b (not_T (insideb x y) (λ c. n (insideb_in x y c))));
    }

names_namesb : (t : List ℤ) (w x y : ℕ) → Names t w x y → T (namesb t w x y)
unfolding namesb
names_namesb t w x y n =
    T_cond (insideb x y) (namedb t w x y) (eqb w NONE) (λ c. named_namedb t w x y (n.inside (insideb_in x y c)))
    (λ c. eq→eqb w NONE (n.outside (λ p. T_not (insideb x y) c (in_insideb x y p))))

stitchedb_stitched : (t : List ℤ) (i : ℕ) → T (stitchedb t i) → Stitched t i
unfolding stitchedb
stitchedb_stitched t i b = search (and_l, and_r, namesb_names) depth 9

stitched_stitchedb : (t : List ℤ) (i : ℕ) → Stitched t i → T (stitchedb t i)
unfolding stitchedb
stitched_stitchedb t i s = search (T_and, names_namesb)

module _ (t : List ℤ) where
  abbrev P : Plane
  P = plane_in t

  -- ---- what the test of two records says

  apartb_disjoint : (i j x y : ℕ) → T (apartb t i j) → Holds P i x y → Holds P j x y → i ≡ j
  apartb_disjoint i j x y b h k =
      or_cases (eqb i j) _ b (λ e. eqb→eq i j e)
      (λ b. or_le (num t i RIGHT) (num t j LEFT) _ b (λ q. omega arith)
      (λ b. or_le (num t j RIGHT) (num t i LEFT) _ b (λ q. omega arith)
      (λ b. or_le (num t i TOP) (num t j BOTTOM) _ b (λ q. omega arith)
      (λ b. omega (arith, leb→le (num t j TOP) (num t i BOTTOM) b)))))

  disjoint_apartb : Disjoint P → (i j : ℕ) → Is P i → Is P j → Formed P i → Formed P j → T (apartb t i j)
  disjoint_apartb d i j u v f g =
      eq_or i j _
      (λ n. le_or (num t i RIGHT) (num t j LEFT) _
      (λ h. le_or (num t j RIGHT) (num t i LEFT) _
      (λ k. le_or (num t i TOP) (num t j BOTTOM) _
      (λ l. le_T (num t j TOP) (num t i BOTTOM) (lt_cases (num t i BOTTOM) (num t j TOP)
      (λ m. absurd (n (d i j (max (num t i LEFT) (num t j LEFT)) (max (num t i BOTTOM) (num t j BOTTOM))
      (record { is = u; at = omega arith }) (record { is = v; at = omega arith })))) (λ m. m))))))

  besideb_apart : (i j y : ℕ) → T (besideb t i j) → num t i BOTTOM ≤ y → y < num t i TOP → Holds P j (num t i RIGHT) y → ⊥
  besideb_apart i j y b lo hi h =
      or_le (suc (num t i RIGHT)) (num t j LEFT) _ b (λ q. omega arith)
      (λ b. or_le (num t j RIGHT) (num t i RIGHT) _ b (λ q. omega arith)
      (λ b. or_le (num t i TOP) (num t j BOTTOM) _ b (λ q. omega arith)
      (λ b. omega (arith, leb→le (num t j TOP) (num t i BOTTOM) b))))

  apart_besideb : (i j : ℕ) → Is P j → Formed P i → Formed P j
      → ((y : ℕ) → num t i BOTTOM ≤ y → y < num t i TOP → Holds P j (num t i RIGHT) y → ⊥) → T (besideb t i j)
  apart_besideb i j v f g n =
      le_or (suc (num t i RIGHT)) (num t j LEFT) _
      (λ h. le_or (num t j RIGHT) (num t i RIGHT) _
      (λ k. le_or (num t i TOP) (num t j BOTTOM) _
      (λ l. le_T (num t j TOP) (num t i BOTTOM) (lt_cases (num t i BOTTOM) (num t j TOP)
      (λ m. absurd (n (max (num t i BOTTOM) (num t j BOTTOM)) (omega arith) (omega arith) (record { is = v; at = omega arith }))) (λ m. m)))))

  abbrev stripb : ℕ → ℕ → Bool
  stripb i j = besideb t i j && mergedb t i j

  abbrev spacesb : ℕ → ℕ → Bool
  spacesb i j = not (solidb t i) && not (solidb t j)

  pair_all : (i j : ℕ) → T (pairb t i j) → Is P i → Is P j → T (apartb t i j && cond (spacesb i j) (stripb i j) true)
  unfolding pairb
  pair_all i j b u v =
      then_T (usedb t i && usedb t j) (apartb t i j && cond (spacesb i j) (stripb i j) true) true b
      (T_and (usedb t i) (usedb t j) u.used v.used)

  pair_apart : (i j : ℕ) → T (pairb t i j) → Is P i → Is P j → T (apartb t i j)
  pair_apart i j b u v = and_l (apartb t i j) (cond (spacesb i j) (stripb i j) true) (pair_all i j b u v)

  pair_strip : (i j : ℕ) → T (pairb t i j) → Space P (solidb t) i → Space P (solidb t) j → T (stripb i j)
  pair_strip i j b u v =
      then_T (spacesb i j) (stripb i j) true
      (and_r (apartb t i j) (cond (spacesb i j) (stripb i j) true) (pair_all i j b u.is v.is))
      (T_and (not (solidb t i)) (not (solidb t j)) u.space v.space)

  strips_pairb : Strips P (solidb t) → (i j : ℕ) → i < records_of t → j < records_of t → T (pairb t i j)
  unfolding pairb
  strips_pairb s i j h k =
      T_cond (usedb t i && usedb t j) (apartb t i j && cond (spacesb i j) (stripb i j) true) true
      (λ c.
      let u : Is P i = record { below = h; used = and_l (usedb t i) (usedb t j) c } in
      let v : Is P j = record { below = k; used = and_r (usedb t i) (usedb t j) c } in
      T_and (apartb t i j) (cond (spacesb i j) (stripb i j) true)
      (disjoint_apartb s.disjoint i j u v (s.formed i u) (s.formed j v))
      (T_cond (spacesb i j) (stripb i j) true (λ n. strip u v (and_l (not (solidb t i)) (not (solidb t j)) n) (and_r (not (solidb t i)) (not (solidb t j)) n)) (λ n. tt)))
      (λ c. tt)
    where
      strip : Is P i → Is P j → T (not (solidb t i)) → T (not (solidb t j)) → T (stripb i j)
      strip u v m n =
          T_and (besideb t i j) (mergedb t i j)
          (apart_besideb i j v (s.formed i u) (s.formed j v)
          (λ y a b h. T_not (solidb t j) n (s.beside i j y (record { is = u; space = m }) a b h)))
          (not_T (eqb (num t i LEFT) (num t j LEFT) && (eqb (num t i RIGHT) (num t j RIGHT) && eqb (num t i TOP) (num t j BOTTOM)))
          (λ e. s.merged i j (record { is = u; space = m }) (record { is = v; space = n }) (search (and_l, eqb→eq)) (search (and_l, and_r, eqb→eq))
          (search (and_l, and_r, eqb→eq))))

  -- ---- what the test of one record says

  tileb : ℕ → Bool
  tileb i = formedb t i && (kindedb t i && stitchedb t i)

  tile_of_lem : (i : ℕ) → T (recordb t i) → Is P i → T (tileb i)
  unfolding recordb tileb
  tile_of_lem i b u = then_T (usedb t i) (tileb i) (zerob t i) b u.used

  record_formed : (i : ℕ) → T (recordb t i) → Is P i → Formed P i
  unfolding tileb
  record_formed i b u = formedb_formed t i (and_l (formedb t i) (kindedb t i && stitchedb t i) (tile_of_lem i b u))

  record_kinded : (i : ℕ) → T (recordb t i) → Is P i → Kinded (tile_of t i)
  unfolding tileb
  record_kinded i b u =
      kindedb_kinded t i (and_l (kindedb t i) (stitchedb t i) (and_r (formedb t i) (kindedb t i && stitchedb t i) (tile_of_lem i b u)))

  record_stitched : (i : ℕ) → T (recordb t i) → Is P i → Stitched t i
  unfolding tileb
  record_stitched i b u =
      stitchedb_stitched t i (and_r (kindedb t i) (stitchedb t i) (and_r (formedb t i) (kindedb t i && stitchedb t i) (tile_of_lem i b u)))

  record_zeros : (i : ℕ) → T (recordb t i) → num t i KIND ≡ FREE → Zeros t i
  unfolding recordb tileb
  record_zeros i b e =
      zerob_zeros t i (else_T (usedb t i) (tileb i) (zerob t i) b (not_T (usedb t i) (λ n. T_not (eqb (num t i KIND) FREE) n (eq→eqb (num t i KIND) FREE e))))

  sound_recordb : (i : ℕ) → i < records_of t → (Is P i → Formed P i × Kinded (tile_of t i) × Stitched t i) → (num t i KIND ≡ FREE → Zeros t i) → T (recordb t i)
  unfolding recordb tileb
  sound_recordb i h f z =
      T_cond (usedb t i) (tileb i) (zerob t i)
      (λ c.
      let (a, b, d) = f (record { below = h; used = c }) in
      T_and (formedb t i) (kindedb t i && stitchedb t i) (formed_formedb t i a)
      (T_and (kindedb t i) (stitchedb t i) (kinded_kindedb t i b) (stitched_stitchedb t i d)))
      (λ c. zeros_zerob t i (z (eqb→eq (num t i KIND) FREE (T_of (eqb (num t i KIND) FREE) (λ n. T_not (usedb t i) c n)))))

  -- ---- the parts of the test

  record Passes : Type 0 where
    records : (i : ℕ) → i < records_of t → T (recordb t i)
    pairs : (i j : ℕ) → i < records_of t → j < records_of t → T (pairb t i j)
    full : T (eqb (area P) (P.W * P.W))
    few : T (leb (solids_in t) (capacity (records_of t)))

  soundb_passes : T (soundb t) → Passes
  unfolding soundb
  soundb_passes b =
      let full = eqb (area P) (P.W * P.W) in
      let few = leb (solids_in t) (capacity (records_of t)) in
      let pairs = all_below (λ i. all_below (pairb t i) (records_of t)) (records_of t) in
      let b₁ = and_r (all_below (recordb t) (records_of t)) (pairs && (full && few)) b in
      let b₂ = and_r pairs (full && few) b₁ in
      record {
        records = all_below_lem (recordb t) (records_of t) (and_l (all_below (recordb t) (records_of t)) (pairs && (full && few)) b);
        pairs =
            λ i j h k. all_below_lem (pairb t i) (records_of t)
            (all_below_lem (λ i. all_below (pairb t i) (records_of t)) (records_of t) (and_l pairs (full && few) b₁) i h) j k;
        full = and_l full few b₂;
        few = and_r full few b₂;
      }

  passes_soundb : Passes → T (soundb t)
  unfolding soundb
  passes_soundb p =
      let full = eqb (area P) (P.W * P.W) in
      let few = leb (solids_in t) (capacity (records_of t)) in
      let pairs = all_below (λ i. all_below (pairb t i) (records_of t)) (records_of t) in
      T_and (all_below (recordb t) (records_of t)) (pairs && (full && few)) (below_all (recordb t) (records_of t) p.records)
      (T_and pairs (full && few)
      (below_all (λ i. all_below (pairb t i) (records_of t)) (records_of t) (λ i h. below_all (pairb t i) (records_of t) (λ j k. p.pairs i j h k)))
      (T_and full few p.full p.few))

  passes_widest : Passes → Widest (records_of t) (tile_of t)
  passes_widest p =
      let formed : WellFormed P = λ i u. record_formed i (p.records i u.below) u in
      let disjoint : Disjoint P =
      λ i j x y h k. apartb_disjoint i j x y (pair_apart i j (p.pairs i j h.is.below k.is.below) h.is k.is) h k in
      record {
        kinded = λ i u. record_kinded i (p.records i u.below) (used_is t i u);
        strips =
            record {
              formed = formed;
              covered = cover_from_area P formed disjoint (eqb→eq (area P) (P.W * P.W) p.full);
              disjoint = disjoint;
              beside = beside;
              merged = merged;
            };
      }
    where
      strip : (i j : ℕ) → Space P (solidb t) i → Space P (solidb t) j → T (stripb i j)
      strip i j u v = pair_strip i j (p.pairs i j u.is.below v.is.below) u v

      beside : (i j y : ℕ) → Space P (solidb t) i → P.b i ≤ y → y < P.t i → Holds P j (P.r i) y → T (solidb t j)
      beside i j y u a b h =
          T_of (solidb t j) (λ n. besideb_apart i j y (and_l (besideb t i j) (mergedb t i j) (strip i j u (record { is = h.is; space = n }))) a b h)

      merged : (i j : ℕ) → Space P (solidb t) i → Space P (solidb t) j → P.l i ≡ P.l j → P.r i ≡ P.r j → P.t i ≡ P.b j → ⊥
      merged i j u v a b c =
          T_not (eqb (num t i LEFT) (num t j LEFT) && (eqb (num t i RIGHT) (num t j RIGHT) && eqb (num t i TOP) (num t j BOTTOM)))
          (and_r (besideb t i j) (mergedb t i j) (strip i j u v)) (search (T_and, eq→eqb))

  -- ---- a table is sound exactly where it passes

  pub soundb_sound : T (soundb t) → Sound t
  soundb_sound b =
      let p = soundb_passes b in
      let (a, d) = widest_drawn (records_of t) (tile_of t) (passes_widest p) in
      record {
        solids = solids_of (records_of t) (tile_of t);
        for =
            record {
              apart = a;
              few = leb→le (solids_in t) (capacity (records_of t)) p.few;
              drawn = d;
              stitched = λ i u. record_stitched i (p.records i u.below) (used_is t i u);
              free = λ i h. record_zeros i (p.records i h);
            };
      }

  pub sound_soundb : Sound t → T (soundb t)
  sound_soundb s =
      let f = s.for in
      let w = drawn_widest (records_of t) (tile_of t) s.solids f.apart f.drawn in
      let g = w.strips in
      passes_soundb
      (record {
        records = λ i h. sound_recordb i h (λ u. (g.formed i u, w.kinded i (is_used t i u), f.stitched i (is_used t i u))) (f.free i h);
        pairs = strips_pairb g;
        full = eq→eqb (area P) (P.W * P.W) (exact_area P g.formed g.covered g.disjoint);
        few = le_T (solids_in t) (capacity (records_of t)) (omega (arith, f.few, drawn_count (records_of t) (tile_of t) s.solids f.apart f.drawn));
      })
