-- 01's starred examples hold. On the table written out an answer is computed; every table that draws the same solids has it too, by its tiles; and
-- no other answer is allowed. Assumes nothing.
use Rattle.std.specs.Prelude.{◌≡◌, refl, ℕ, zero, suc, ◌/◌, ◌-◌, ◌≤◌, ◌<◌, ◌^◌, ℤ, pos, length, get_or}
use Rattle.std.proofs.Common.{sym, ◌∙◌, subst, not-suc-le-zero, le_of_suc-le-suc}
use Rattle.std.proofs.Math.Path.{ap}
use mathlib.Core.List.Memᴰ
use mathlib.Core.List.{List, [], ◌∷◌, ◌++◌, map}
use native.Mathlib.Omega.{arith}
use Rattle.std.proofs.lemmas.List.{length-map}
use Rattle.ruler.specs.Ruler.{ruler, word_ruler}
use Rattle.geometry.specs.Cases.{eq_cases}
use Rattle.geometry.specs.Picture.{ZERO, InPlane, Tile, Has}
use Rattle.table.specs.Words
use Rattle.table.specs.Words.{WIDTH, LEFT, BOTTOM, RIGHT, TOP, TR, RT, BL, LB, records_of, num, tile_of}
use Rattle.table.specs.Sound.{SizeRight, UsedIn, Names, capacity, solids_in, spaces_in, SolidIn}
use Rattle.table.specs.Fresh.{fresh_table}
use Rattle.table.specs.FreshSound.{fresh_length, fresh_no_solid}
use Rattle.table.specs.Examples.{one, abc, one_spaces, one_solids, abc_spaces, abc_solids}
use Rattle.table.proofs.Examples.{fresh_sound_20}
use Rattle.seek.specs.Meaning.{Area, InArea, RectRight, Before, higher, same_row, FreeCell, FreeArea, First, tree, none, more, Directed}
use Rattle.seek.specs.Find.{Finds}
use Rattle.seek.specs.Neighbours.{side_of, Neighbours}
use Rattle.seek.specs.Once.{times, times_here, times_other}
use Rattle.seek.specs.Order.{directed_lists}
use Rattle.ushanderi.specs.Answers.{DONE, OCCUPIED, FULL, answered, accepted, refused, with_cell, without_cell}
use Rattle.ushanderi.specs.declared.answer.Answer.{Answer}
use Rattle.ushanderi.specs.declared.answer.MetAnswer.{MetAnswer}
use Rattle.ushanderi.specs.Edits.{drawn}
use Rattle.ushanderi.specs.Promises.{Fit, FindSays, FreshSays, listed, NeighboursSays, EnumerateSays, CreateSays, DeleteSays}
use Rattle.claims.specs.AgreeChecks.{fit_forms, fit_finds_one, solid_used}
use Rattle.claims.specs.AgreePicture.{picture_count}
use Rattle.claims.specs.History.{Among}
use Rattle.claims.specs.Pictures.{same_spaces, renamed, renamed_twin}
use Rattle.claims.specs.Renamed.{tiles_renamed, neighbours_renamed, directed_renamed}
use Rattle.claims.specs.Draws.{every_one, draws_same, draws_free, draws_more, draws_less, fresh_draws}
use Rattle.claims.specs.Tests.{findsb, findsb_finds, listsb, rootb, rootsb_lists, hangsb, hangsb_lists, on_topb, on_topb_neighbours}
use Rattle.claims.specs.Tables.{ab, abcd, one_draws, ab_draws, abc_draws, abcd_draws, full_draws, ab_spaces, ab_solids, abcd_spaces, full_spaces}
use Rattle.claims.specs.Allowed.{find_is, find_point, search_free, search_met, neighbours_are, enumerated_are, creates, is_full, is_occupied, deletes, is_space}
use Rattle.claims.specs.Examples
use Rattle.claims.specs.Examples.{Answers, AnswersAt, Lends, Example, holds, AllHold, end, ◌and◌, ABC, bottom_strip, left_of_a, gap, right_of_b, strip10to15, left_of_c, right_of_c, top_strip, examples}
use Rattle.claims.specs.Terms.{Shows, SamePicture, Created}
use Rattle.claims.specs.Drawing.{space, area, neg, E, -E, A, B, C, D, W, Draws, area_of, full, blank}

-- an entry of a list stands in it
times_at : (ks : List ℕ) (n : ℕ) → n < length ks → 1 ≤ times (get_or ks n 0) ks
times_at [] n h = absurd (not-suc-le-zero h)
times_at (k ∷ ks) zero h = omega (arith, times_here k k ks refl)
times_at (k ∷ ks) (suc n) h =
    let o = times_at ks n (le_of_suc-le-suc h) in
    eq_cases k (get_or ks n 0) (λ e. omega (arith, times_here (get_or ks n 0) k ks e)) (λ e. omega (arith, times_other (get_or ks n 0) k ks e))

-- ---- from the table written out to every table that draws the same

module _ (S : List Tile) (c : List ℤ) (k : Draws c S) (t : List ℤ) (d : Draws t S) where
  same : SamePicture c t
  same = draws_same c t S k d

  spaces_by : (n : ℕ) → spaces_in c ≡ n → spaces_in t ≡ n
  spaces_by n e = sym (same_spaces c t k.fit d.fit same) ∙ e

  solids_by : (n : ℕ) → solids_in c ≡ n → solids_in t ≡ n
  solids_by n e = sym (picture_count c t k.fit d.fit same) ∙ e

  -- the record of t that holds a cell
  held : (x y i : ℕ) → Finds c x y i → (j : ℕ) × Finds t x y j × (tile_of t j ≡ tile_of c i)
  held x y i h =
      let w = renamed_twin c t k.fit d.fit same i h.used in
      (renamed c t k.fit d.fit same i, record { used = w.twin; has = subst (λ v. Has v x y) (sym w.same) h.has }, w.same)

  found_by : (x y i : ℕ) → Finds c x y i → (a : Answer) → FindSays t x y a → Answers t DONE (tile_of c i) a
  found_by x y i h a s =
      let (j, g, e) = held x y i h in
      record { at = j; is = find_is t d.fit x y j a g s; used = g.used; tile = e }

  -- a stitch names the tile that holds its cell
  named_by : (w x y i x' y' : ℕ) → Finds c x y i → x' ≡ x → y' ≡ y → InPlane x y → Names t w x' y' → Examples.Names t w (tile_of c i)
  named_by w x y i x' y' h p q r n =
      let (j, g, e) = held x y i h in
      let o = n.inside (omega arith) in
      let m : Finds t x y (w - ZERO) = record { used = o.used; has = omega (arith, o.has) } in
      record {
        at = w - ZERO;
        is = omega (arith, o.from);
        used = o.used;
        tile = ap (tile_of t) (fit_finds_one t d.fit x y (w - ZERO) j m g) ∙ e;
      }

  -- lists of records
  lends_by : (ks : List ℕ) → ((n : ℕ) → n < length ks → UsedIn c (get_or ks n 0)) → (out out' : List ℤ) (a : Answer)
      → (a ≡ accepted (length (map (renamed c t k.fit d.fit same) ks))) × (out' ≡ listed (map (renamed c t k.fit d.fit same) ks) out)
      → Lends t (map (tile_of c) ks) out out' a
  lends_by ks u out out' a (e, w) =
      let ρ = renamed c t k.fit d.fit same in
      record {
        records = map ρ ks;
        tiles = tiles_renamed c t k.fit d.fit same ks u;
        is = e ∙ ap accepted (length-map ks ρ ∙ sym (length-map ks (tile_of c)));
        written = w;
      }

  neighbours_by : (x y i s : ℕ) (ks : List ℕ) → s < 4 → Finds c x y i → Neighbours c (side_of s) i ks → (out out' : List ℤ) → length ks ≤ length out
      → (a : Answer) → NeighboursSays t x y (pos s) out out' a → Lends t (map (tile_of c) ks) out out' a
  neighbours_by x y i s ks b h n out out' l a q =
      let ρ = renamed c t k.fit d.fit same in
      let w = renamed_twin c t k.fit d.fit same i h.used in
      lends_by ks (λ m o. (n.each m o).used) out out' a
      (neighbours_are t d.fit x y (ρ i) s (map ρ ks) out out' a b
      (record { used = w.twin; has = subst (λ v. Has v x y) (sym w.same) h.has })
      (neighbours_renamed c t k.fit d.fit same (side_of s) i ks h.used n) (omega (arith, length-map ks ρ)) q)

  enumerated_by : (R : Area) (ks : List ℕ) → RectRight R → Directed c R ks → (out out' : List ℤ) → length ks ≤ length out
      → (a : Answer) → EnumerateSays t R out out' a → Lends t (map (tile_of c) ks) out out' a
  enumerated_by R ks r n out out' l a q =
      let ρ = renamed c t k.fit d.fit same in
      lends_by ks (λ m o. ((directed_lists c (fit_forms c k.fit) R r ks n (get_or ks m 0)).0 (times_at ks m o)).used) out out' a
      (enumerated_are t d.fit R (map ρ ks) out out' a r (directed_renamed c t k.fit d.fit same R ks n) (omega (arith, length-map ks ρ)) q)

-- ---- the entries

spaces_one : holds (Example.spaces (A ∷ []) 4)
spaces_one t d = spaces_by (A ∷ []) one one_draws t d 4 one_spaces

spaces_two : holds (Example.spaces (A ∷ B ∷ []) 5)
spaces_two t d = spaces_by (A ∷ B ∷ []) ab ab_draws t d 5 ab_spaces

spaces_three : holds (Example.spaces ABC 8)
spaces_three t d = spaces_by ABC abc abc_draws t d 8 abc_spaces

stitches_A : holds (Example.stitches (A ∷ []) A (space (pos 10) (pos 0) E (pos 10)) (space -E (pos 10) E E) left_of_a bottom_strip)
unfolding one num ruler findsb
stitches_A t d i u e =
    let s = d.fit.sound.for.stitched i (solid_used t i u) in
    let l : num t i LEFT ≡ ruler (pos 0) = ap (λ v. v.left) e in
    let b : num t i BOTTOM ≡ ruler (pos 0) = ap (λ v. v.bottom) e in
    let r : num t i RIGHT ≡ ruler (pos 10) = ap (λ v. v.right) e in
    let o : num t i TOP ≡ ruler (pos 10) = ap (λ v. v.top) e in
    record {
      tr = named_by (A ∷ []) one one_draws t d (num t i TR) (ruler (pos 10)) (ruler (pos 9)) 3 _ _ (findsb_finds one _ _ 3 tt) r (omega arith) (omega arith) s.tr;
      rt = named_by (A ∷ []) one one_draws t d (num t i RT) (ruler (pos 9)) (ruler (pos 10)) 4 _ _ (findsb_finds one _ _ 4 tt) (omega arith) o (omega arith) s.rt;
      bl = named_by (A ∷ []) one one_draws t d (num t i BL) (ruler (neg 1)) (ruler (pos 0)) 2 _ _ (findsb_finds one _ _ 2 tt) (omega arith) b (omega arith) s.bl;
      lb = named_by (A ∷ []) one one_draws t d (num t i LB) (ruler (pos 0)) (ruler (neg 1)) 1 _ _ (findsb_finds one _ _ 1 tt) l (omega arith) (omega arith) s.lb;
    }

found_A : holds (Example.found ABC (pos 9) (pos 9) A)
unfolding abc num ruler findsb
found_A t d = found_by ABC abc abc_draws t d (ruler (pos 9)) (ruler (pos 9)) 0 (findsb_finds abc _ _ 0 tt)

found_gap : holds (Example.found ABC (pos 10) (pos 5) gap)
unfolding abc num ruler findsb
found_gap t d = found_by ABC abc abc_draws t d (ruler (pos 10)) (ruler (pos 5)) 5 (findsb_finds abc _ _ 5 tt)

found_corner : holds (Example.found ABC (pos 0) (pos 0) A)
unfolding abc num ruler findsb
found_corner t d = found_by ABC abc abc_draws t d (ruler (pos 0)) (ruler (pos 0)) 0 (findsb_finds abc _ _ 0 tt)

found_last : holds (Example.found ABC (pos 16777215) (pos 16777215) top_strip)
unfolding abc num ruler findsb
found_last t d = found_by ABC abc abc_draws t d (ruler (pos 16777215)) (ruler (pos 16777215)) 10 (findsb_finds abc _ _ 10 tt)

outside_E : holds (Example.outside ABC E (pos 0))
unfolding ruler
outside_E t d a s = find_point t d.fit (ruler E) (ruler (pos 0)) a (λ p. omega arith) s

-- ---- areas of A, B and C

gap_area : Area
gap_area = area (pos 10) (pos 0) (pos 20) (pos 10)

gap_free : (t : List ℤ) → Draws t ABC → FreeArea t gap_area
unfolding ruler gap_area
gap_free t d x y h = draws_free t ABC x y d (λ k. omega arith, (λ k. omega arith, (λ k. omega arith, tt)))

searched_free : holds (Example.free ABC (area (pos 10) (pos 0) (pos 20) (pos 10)))
unfolding ruler gap_area
searched_free t d a s = search_free t d.fit gap_area a (omega arith) (gap_free t d) s

-- the solid v stands in some record, and is the first to be met where it holds the area's first occupied cell
met : (t : List ℤ) (R : Area) (x y : ℕ) (v : Tile) → Shows t v → Has v x y → InArea R x y
    → ((x' y' : ℕ) → InArea R x' y' → Before x' y' x y → FreeCell t x' y') → (i : ℕ) × First t R x y i × UsedIn t i × (tile_of t i ≡ v)
met t R x y v s h o n =
    (s.at, record { inside = o; solid = s.solid; has = subst (λ w. Has w x y) (sym s.is) h; none_before = n }, solid_used t s.at s.solid, s.is)

-- an answer that names a solid and a cell, by the cell's words
named : (t : List ℤ) (number i x y : ℕ) (v : Tile) (a : MetAnswer) → x < 2 ^ 31 → y < 2 ^ 31 → a ≡ with_cell (answered number i) (ruler (pos x)) (ruler (pos y))
    → UsedIn t i → tile_of t i ≡ v → AnswersAt t number v (pos x) (pos y) a
named t number i x y v a f g e u q =
    record {
      tile = record { at = i; is = ap (λ a. record { number = a.number; value = a.value }) e; used = u; tile = q };
      column = ap (λ a. a.x) e ∙ word_ruler (pos x) (record { sfits = f });
      row = ap (λ a. a.y) e ∙ word_ruler (pos y) (record { sfits = g });
    }

searched_C : holds (Example.searched ABC (area (pos 5) (pos 0) (pos 25) (pos 20)) C (pos 5) (pos 19))
unfolding ruler
searched_C t d a s =
    let R = area (pos 5) (pos 0) (pos 25) (pos 20) in
    let (i, f, u, e) = met t R (ruler (pos 5)) (ruler (pos 19)) C (d.all C (search (Memᴰ.head, Memᴰ.tail))) (omega arith) (omega arith) none in
    named t DONE i 5 19 C a (omega arith) (omega arith) (search_met t d.fit R (ruler (pos 5)) (ruler (pos 19)) i a (omega arith) f s) u e
  where
    none : (x y : ℕ) → InArea (area (pos 5) (pos 0) (pos 25) (pos 20)) x y → Before x y (ruler (pos 5)) (ruler (pos 19)) → FreeCell t x y
    none x y h (higher b) = absurd (omega arith)
    none x y h (same_row e b) = absurd (omega arith)

searched_A : holds (Example.searched ABC (area (pos 0) (pos 0) (pos 30) (pos 15)) A (pos 0) (pos 9))
unfolding ruler
searched_A t d a s =
    let R = area (pos 0) (pos 0) (pos 30) (pos 15) in
    let (i, f, u, e) = met t R (ruler (pos 0)) (ruler (pos 9)) A (d.all A (Memᴰ.head refl)) (omega arith) (omega arith) none in
    named t DONE i 0 9 A a (omega arith) (omega arith) (search_met t d.fit R (ruler (pos 0)) (ruler (pos 9)) i a (omega arith) f s) u e
  where
    none : (x y : ℕ) → InArea (area (pos 0) (pos 0) (pos 30) (pos 15)) x y → Before x y (ruler (pos 0)) (ruler (pos 9)) → FreeCell t x y
    none x y h (higher b) = draws_free t ABC x y d (λ k. omega arith, (λ k. omega arith, (λ k. omega arith, tt)))
    none x y h (same_row e b) = absurd (omega arith)

occupied_A : holds (Example.occupied ABC (area (pos 9) (pos 3) (pos 12) (pos 4)) 4 A (pos 9) (pos 3))
unfolding ruler
occupied_A t d t' a s =
    let R = area (pos 9) (pos 3) (pos 12) (pos 4) in
    let (i, f, u, e) = met t R (ruler (pos 9)) (ruler (pos 3)) A (d.all A (Memᴰ.head refl)) (omega arith) (omega arith) none in
    let (q, w) = is_occupied t d.fit R (ruler (pos 4)) (omega arith) (omega arith) t' a (ruler (pos 9)) (ruler (pos 3)) i f s in
    (named t OCCUPIED i 9 3 A a (omega arith) (omega arith) q u e, w)
  where
    none : (x y : ℕ) → InArea (area (pos 9) (pos 3) (pos 12) (pos 4)) x y → Before x y (ruler (pos 9)) (ruler (pos 3)) → FreeCell t x y
    none x y h (higher b) = absurd (omega arith)
    none x y h (same_row e b) = absurd (omega arith)

-- ---- lists

on_bottom : holds (Example.neighbours ABC (pos 0) (neg 1) 2 (right_of_b ∷ B ∷ gap ∷ A ∷ left_of_a ∷ []))
unfolding abc num ruler findsb listsb on_topb side_of
on_bottom t d out out' l a s =
    neighbours_by ABC abc abc_draws t d (ruler (pos 0)) (ruler (neg 1)) 3 2 (6 ∷ 1 ∷ 5 ∷ 0 ∷ 4 ∷ []) (omega arith) (findsb_finds abc _ _ 3 tt)
    (on_topb_neighbours abc 3 _ tt) out out' l a s

wide_order : Directed abc (area (neg 5) (pos 0) (pos 35) (pos 20)) (8 ∷ 2 ∷ 9 ∷ 7 ∷ 4 ∷ 0 ∷ 5 ∷ 1 ∷ 6 ∷ [])
unfolding abc num ruler listsb rootb hangsb
wide_order =
    record {
      roots = 8 ∷ 7 ∷ 4 ∷ [];
      are = rootsb_lists abc R (8 ∷ 7 ∷ 4 ∷ []) tt;
      trees =
          more (tree (2 ∷ []) (hangsb_lists abc R 8 (2 ∷ []) tt) (more (tree (9 ∷ []) (hangsb_lists abc R 2 (9 ∷ []) tt) (more (tree [] (hangsb_lists abc R 9 [] tt) none) none)) none))
          (more (tree [] (hangsb_lists abc R 7 [] tt) none)
          (more (tree (0 ∷ []) (hangsb_lists abc R 4 (0 ∷ []) tt)
          (more (tree (5 ∷ []) (hangsb_lists abc R 0 (5 ∷ []) tt)
          (more (tree (1 ∷ []) (hangsb_lists abc R 5 (1 ∷ []) tt)
          (more (tree (6 ∷ []) (hangsb_lists abc R 1 (6 ∷ []) tt) (more (tree [] (hangsb_lists abc R 6 [] tt) none) none)) none)) none)) none)) none));
    }
  where
    R : Area
    R = area (neg 5) (pos 0) (pos 35) (pos 20)

enumerated_wide : holds (Example.enumerated ABC (area (neg 5) (pos 0) (pos 35) (pos 20)) (left_of_c ∷ C ∷ right_of_c ∷ strip10to15 ∷ left_of_a ∷ A ∷ gap ∷ B ∷ right_of_b ∷ []))
unfolding abc num ruler
enumerated_wide t d out out' l a s =
    enumerated_by ABC abc abc_draws t d (area (neg 5) (pos 0) (pos 35) (pos 20)) (8 ∷ 2 ∷ 9 ∷ 7 ∷ 4 ∷ 0 ∷ 5 ∷ 1 ∷ 6 ∷ []) (omega arith) wide_order out out' l a s

row_order : Directed abc (area (pos 5) (pos 2) (pos 25) (pos 8)) (0 ∷ 5 ∷ 1 ∷ [])
unfolding abc num ruler listsb rootb hangsb
row_order =
    record {
      roots = 0 ∷ [];
      are = rootsb_lists abc R (0 ∷ []) tt;
      trees =
          more (tree (5 ∷ []) (hangsb_lists abc R 0 (5 ∷ []) tt)
          (more (tree (1 ∷ []) (hangsb_lists abc R 5 (1 ∷ []) tt) (more (tree [] (hangsb_lists abc R 1 [] tt) none) none)) none)) none;
    }
  where
    R : Area
    R = area (pos 5) (pos 2) (pos 25) (pos 8)

enumerated_row : holds (Example.enumerated ABC (area (pos 5) (pos 2) (pos 25) (pos 8)) (A ∷ gap ∷ B ∷ []))
unfolding abc num ruler
enumerated_row t d out out' l a s =
    enumerated_by ABC abc abc_draws t d (area (pos 5) (pos 2) (pos 25) (pos 8)) (0 ∷ 5 ∷ 1 ∷ []) (omega arith) row_order out out' l a s

-- ---- edits

-- an accepted create draws one solid more
created_by : (t : List ℤ) (S : List Tile) (R : Area) (label : ℕ) (t' : List ℤ) (a : MetAnswer) → Draws t S → Created t R label t' a
    → AnswersAt t' DONE (drawn R label) (pos 0) (pos 0) a × Draws t' (S ++ drawn R label ∷ [])
created_by t S R label t' a d c =
    let w = c.done.adds in
    let e = c.is in (
      record {
        tile =
            record {
              at = c.at;
              is = ap (λ a. record { number = a.number; value = a.value }) e;
              used = solid_used t' c.at w.new;
              tile = w.is;
            };
        column = ap (λ a. a.x) e;
        row = ap (λ a. a.y) e;
      },
      draws_more t t' S c.at (drawn R label) d c.done.edited w,
    )

created_gap : holds (Example.created ABC (area (pos 10) (pos 0) (pos 20) (pos 10)) 4 7)
unfolding ruler gap_area
created_gap t d n t' a s =
    let c = creates t d.fit gap_area (ruler (pos 4)) (omega arith) (omega arith) t' a (gap_free t d)
    (omega (arith, solids_by ABC abc abc_draws t d 3 abc_solids)) s in
    let (w, e) = created_by t ABC gap_area (ruler (pos 4)) t' a d c in
    (w, record { draws = e; spaces = spaces_by (A ∷ B ∷ C ∷ D ∷ []) abcd abcd_draws t' e 7 abcd_spaces })

deleted_C : holds (Example.deleted ABC (pos 12) (pos 17) 3 (A ∷ B ∷ []) 5)
unfolding abc num ruler findsb
deleted_C t d t' a s =
    let (j, h, e) = held ABC abc abc_draws t d (ruler (pos 12)) (ruler (pos 17)) 2 (findsb_finds abc _ _ 2 tt) in
    let o : SolidIn t j = record { below = h.used.below; kind = ap (λ v. v.paint.kind) e } in
    let (q, w) = deletes t d.fit (ruler (pos 12)) (ruler (pos 17)) j h t' a o s in
    let k : num t j Words.LABEL ≡ ruler (pos 3) = ap (λ v. v.paint.label) e in
    let g = draws_less t t' (A ∷ B ∷ []) j C d C_other w.edited w.removes o e in
    (q ∙ ap accepted (omega arith), record { draws = g; spaces = spaces_by (A ∷ B ∷ []) ab ab_draws t' g 5 ab_spaces })
  where
    C_other : Among (A ∷ B ∷ []) C → ⊥
    C_other m = every_one (λ v. v.paint.label ≡ ruler (pos 3) → ⊥) (A ∷ B ∷ []) C (λ e. omega arith, (λ e. omega arith, tt)) m refl

at_gap : holds (Example.at_space ABC (pos 15) (pos 5))
unfolding abc num ruler findsb
at_gap t d t' a s =
    let (j, h, e) = held ABC abc abc_draws t d (ruler (pos 15)) (ruler (pos 5)) 5 (findsb_finds abc _ _ 5 tt) in
    is_space t d.fit (ruler (pos 15)) (ruler (pos 5)) j h t' a (record { below = h.used.below; kind = ap (λ v. v.paint.kind) e }) s

-- ---- from a fresh plane

fresh_done : holds Example.fresh
fresh_done t t' a z (FreshSays.size n e w) = absurd (n z)
fresh_done t t' a z (FreshSays.done s e w) = (e, subst (λ t'. Draws t' []) (sym w) (fresh_draws t s))

fresh_size : (t t' : List ℤ) (a : Answer) → FreshSays t t' a → length t' ≡ length t
fresh_size t t' a (FreshSays.size n e w) = ap length w
fresh_size t t' a (FreshSays.done s e w) = ap length w ∙ fresh_length (length t) (omega (arith, s.least))

pub blank_draws : Draws blank []
unfolding blank
blank_draws = fresh_draws blank fit.size
  where
    fit : Fit (fresh_table 200)
    fit = record { size = omega arith; sound = fresh_sound_20 }

-- a create on a table that draws nothing
first_done : (t : List ℤ) (R : Area) (label : ℕ) → Draws t [] → RectRight R → ZERO < label → (t' : List ℤ) (a : MetAnswer) → CreateSays t R label t' a → Created t R label t' a
unfolding blank
first_done t R label d r l t' a s =
    creates t d.fit R label r l t' a (λ x y h. draws_free t [] x y d tt)
    (omega (arith, solids_by [] blank blank_draws t d 0 (fresh_no_solid 200 (omega arith) (omega arith)), d.fit.size.least)) s

-- A on a fresh plane
pub record AfterA (t t₁ : List ℤ) (a₁ : MetAnswer) : Type 0 where
  pub answers : AnswersAt t₁ DONE A (pos 0) (pos 0) a₁
  pub draws : Draws t₁ (A ∷ [])
  pub records : records_of t₁ ≡ records_of t

pub after_A : (t t₀ t₁ : List ℤ) (a₀ : Answer) (a₁ : MetAnswer) → SizeRight t → FreshSays t t₀ a₀ → CreateSays t₀ (area_of A) A.paint.label t₁ a₁ → AfterA t t₁ a₁
unfolding ruler
after_A t t₀ t₁ a₀ a₁ z f s =
    let d = (fresh_done t t₀ a₀ z f).1 in
    let c = first_done t₀ (area_of A) A.paint.label d (omega arith) (omega arith) t₁ a₁ s in
    let (w, e) = created_by t₀ [] (area_of A) A.paint.label t₁ a₁ d c in
    record { answers = w; draws = e; records = ap (λ n. n / WIDTH) (c.done.edited.size ∙ fresh_size t t₀ a₀ f) }

-- and B beside it, and C
pub second_done : (t : List ℤ) → Draws t (A ∷ []) → 2 ≤ capacity (records_of t) → (t' : List ℤ) (a : MetAnswer) → CreateSays t (area_of B) B.paint.label t' a
    → Created t (area_of B) B.paint.label t' a
unfolding ruler
second_done t d n t' a s =
    creates t d.fit (area_of B) B.paint.label (omega arith) (omega arith) t' a (λ x y h. draws_free t (A ∷ []) x y d (λ k. omega arith, tt))
    (omega (arith, solids_by (A ∷ []) one one_draws t d 1 one_solids)) s

third_done : (t : List ℤ) → Draws t (A ∷ B ∷ []) → 3 ≤ capacity (records_of t) → (t' : List ℤ) (a : MetAnswer) → CreateSays t (area_of C) C.paint.label t' a
    → Created t (area_of C) C.paint.label t' a
unfolding ruler
third_done t d n t' a s =
    creates t d.fit (area_of C) C.paint.label (omega arith) (omega arith) t' a
    (λ x y h. draws_free t (A ∷ B ∷ []) x y d (λ k. omega arith, (λ k. omega arith, tt)))
    (omega (arith, solids_by (A ∷ B ∷ []) ab ab_draws t d 2 ab_solids)) s

-- A, B and C, created on a fresh plane that takes three, are what the examples start from
pub start_abc : (t t₀ t₁ t₂ t₃ : List ℤ) (a₀ : Answer) (a₁ a₂ a₃ : MetAnswer) → SizeRight t → 3 ≤ capacity (records_of t) → FreshSays t t₀ a₀
    → CreateSays t₀ (area_of A) A.paint.label t₁ a₁ → CreateSays t₁ (area_of B) B.paint.label t₂ a₂ → CreateSays t₂ (area_of C) C.paint.label t₃ a₃ → Draws t₃ ABC
start_abc t t₀ t₁ t₂ t₃ a₀ a₁ a₂ a₃ z n f s₁ s₂ s₃ =
    let o = after_A t t₀ t₁ a₀ a₁ z f s₁ in
    let r = o.records in
    let c₂ = second_done t₁ o.draws (omega arith) t₂ a₂ s₂ in
    let d₂ = (created_by t₁ (A ∷ []) (area_of B) B.paint.label t₂ a₂ o.draws c₂).1 in
    let c₃ = third_done t₂ d₂ (omega (arith, c₂.done.edited.size)) t₃ a₃ s₃ in
    (created_by t₂ (A ∷ B ∷ []) (area_of C) C.paint.label t₃ a₃ d₂ c₃).1

created_whole : holds (Example.created [] (area -E -E E E) 1 0)
unfolding ruler
created_whole t d n t' a s =
    let R = area -E -E E E in
    let (w, e) = created_by t [] R (ruler (pos 1)) t' a d (first_done t R (ruler (pos 1)) d (omega arith) (omega arith) t' a s) in
    (w, record { draws = e; spaces = spaces_by (W ∷ []) full full_draws t' e 0 full_spaces })

-- A in a table of 20 records
module _ (t t' : List ℤ) (d : Draws t (A ∷ [])) (l : records_of t ≡ 20) where
  second_full : (a : MetAnswer) → CreateSays t (area_of B) B.paint.label t' a → (a ≡ without_cell (refused FULL)) × (t' ≡ t)
  unfolding ruler
  second_full a s =
      is_full t d.fit (area_of B) B.paint.label (omega arith) (omega arith) t' a
      (λ x y h. draws_free t (A ∷ []) x y d (λ k. omega arith, tt))
      (omega (arith, solids_by (A ∷ []) one one_draws t d 1 one_solids)) s

  deleted_A : (a : Answer) → DeleteSays t (ruler (pos 0)) (ruler (pos 0)) t' a → (a ≡ accepted 1) × Draws t' []
  unfolding one num ruler findsb
  deleted_A a s =
      let (j, h, e) = held (A ∷ []) one one_draws t d (ruler (pos 0)) (ruler (pos 0)) 0 (findsb_finds one _ _ 0 tt) in
      let o : SolidIn t j = record { below = h.used.below; kind = ap (λ v. v.paint.kind) e } in
      let (q, w) = deletes t d.fit (ruler (pos 0)) (ruler (pos 0)) j h t' a o s in
      let k : num t j Words.LABEL ≡ ruler (pos 1) = ap (λ v. v.paint.label) e in
      (q ∙ ap accepted (omega arith), draws_less t t' [] j A d Memᴰ.not-nil w.edited w.removes o e)

refilled_B : holds (Example.refilled A B (pos 0) (pos 0) 1)
unfolding ruler
refilled_B t t₀ t₁ t₂ t₃ t₄ a a₁ a₂ a₃ a₄ z n f s₁ s₂ s₃ s₄ =
    let o = after_A t t₀ t₁ a a₁ z f s₁ in
    let (e₂, q) = second_full t₁ t₂ o.draws (o.records ∙ n) a₂ s₂ in
    let (e₃, d₃) = deleted_A t₁ t₃ o.draws (o.records ∙ n) a₃ (subst (λ t. DeleteSays t (ruler (pos 0)) (ruler (pos 0)) t₃ a₃) q s₃) in
    let (w₄, d₄) = created_by t₃ [] (area_of B) B.paint.label t₄ a₄ d₃ (first_done t₃ (area_of B) B.paint.label d₃ (omega arith) (omega arith) t₄ a₄ s₄) in
    record { first = o.answers; second = (e₂, q); third = e₃; fourth = w₄; after = d₄ }

-- ---- the table of examples

pub examples_hold : AllHold examples
examples_hold =
    spaces_one and stitches_A
    and spaces_two and spaces_three
    and found_A and found_gap and found_corner
    and outside_E and found_last
    and occupied_A and created_gap
    and searched_free and searched_C and searched_A
    and on_bottom
    and enumerated_wide
    and enumerated_row
    and deleted_C and at_gap
    and refilled_B
    and fresh_done and created_whole
    and end
