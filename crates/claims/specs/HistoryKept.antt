-- Over all histories: the table is sound, its solids are exactly those accepted and not deleted, and what follows from that. Assumes nothing.
use Rattle.std.specs.Prelude.{◌≡◌, refl, ◌≢◌, ◌↔◌, List, [], ◌∷◌, ℕ, zero, suc, ◌<◌, ◌^◌, ℤ, length, get_or}
use Rattle.std.proofs.Common.{sym, ap, ◌∙◌, subst, ⊎_elim, arith}
use mathlib.Core.List.Memᴰ
use Rattle.geometry.specs.Cases.{eq_cases}
use Rattle.geometry.specs.Picture.{SPACE, SOLID, Tile, Has, Limits, In, Apart, Strip, TileOf, Drawn}
use Rattle.geometry.specs.Runs.{SameSolids, same_turned}
use Rattle.geometry.specs.Tiling.{one_holder}
use Rattle.geometry.specs.DrawnWidest.{drawn_count, same_tile_of}
use Rattle.table.specs.Words.{LEFT, BOTTOM, RIGHT, TOP, KIND, records_of, num, tile_of}
use Rattle.table.specs.Sound.{SizeRight, SoundFor, solids_in, SolidIn}
use Rattle.table.specs.Fresh.{fresh_table}
use Rattle.table.specs.FreshSound.{OneTile, fresh_one}
use Rattle.table.proofs.Forms.{sound_three}
use Rattle.seek.specs.Meaning.{Area}
use Rattle.layout.specs.Bytes.{saved_at}
use Rattle.ushanderi.specs.Edits.{drawn}
use Rattle.ushanderi.specs.Promises.{Fit, CreateDone, DeleteDone, area_in, Built}
use Rattle.claims.specs.AgreeChecks.{fit_forms, fit_finds_one, solid_used}
use Rattle.claims.specs.AgreePicture.{shows, own_solids, in_solid, solid_in, own_apart, own_drawn}
use Rattle.claims.specs.AgreeCreate.{edited_fit}
use Rattle.claims.specs.AgreeLoad.{fresh_fit}
use Rattle.claims.specs.History.{Among, Distinct, without, filed, blank, set_of, space_tile, Kept}
use Rattle.claims.specs.HistoryAccount.{filed_label, among_without, without_among, distinct_without, at_among, among_at, distinct_at, set_number}
use Rattle.claims.specs.Terms.{Shows}

-- what the steps carry on
pub record Shown (t : List ℤ) (S : List Tile) : Type 0 where
  pub fit : Fit t
  pub solids : (v : Tile) → Among S v ↔ Shows t v
  pub once : Distinct S
  pub labels : (v : Tile) → Among S v → v.paint.label < 2 ^ 32

-- ---- a fresh plane
one_no_solid : (t : List ℤ) → OneTile t → (i : ℕ) → SolidIn t i → ⊥
one_no_solid t o zero s = omega (arith, s.kind, o.kind)
one_no_solid t o (suc i) s = omega (arith, s.kind, o.rest i KIND s.below (omega arith))

pub fresh_shown : (t : List ℤ) → SizeRight t → Shown (fresh_table (length t)) []
fresh_shown t s =
    record {
      fit = fresh_fit t s;
      solids = λ v. (
        λ m. absurd (Memᴰ.not-nil m),
        λ h. absurd (one_no_solid (fresh_table (length t)) (fresh_one (length t) (omega (arith, s.least))) h.at h.solid),
      );
      once = Distinct.none;
      labels = λ v m. absurd (Memᴰ.not-nil m);
    }

-- ---- create
module _ (t : List ℤ) (S : List Tile) (k : Shown t S) (A : Area) (label : ℕ) (b : label < 2 ^ 32) (t' : List ℤ) (at : ℕ) (d : CreateDone t A label t' at) where
  -- the rectangle's own corner is free
  not_there : Among S (drawn A label) → ⊥
  not_there m =
      let h = (k.solids (drawn A label)).0 m in
      let r = d.allows.rect in
      let c : Has (drawn A label) A.left A.bottom = record { left = omega arith; right = r.wide; bottom = omega arith; top = r.high } in
      d.allows.free A.left A.bottom (omega arith) h.at h.solid (subst (λ v. Has v A.left A.bottom) (sym h.is) c)

  old_shown : (v : Tile) → Shows t v → Shows t' v
  old_shown v h = let (s, e) = d.adds.kept h.at h.solid in record { at = h.at; solid = s; is = e ∙ h.is }

  new_among : (v : Tile) → Shows t' v → Among (drawn A label ∷ S) v
  new_among v h = eq_cases h.at at
      (λ e. Memᴰ.head (sym h.is ∙ ap (tile_of t') e ∙ d.adds.is))
      (λ n.
      let o = d.adds.only h.at h.solid n in
      Memᴰ.tail ((k.solids v).1 (record { at = h.at; solid = o; is = sym (d.adds.kept h.at o).1 ∙ h.is })))

  pub create_shown : Shown t' (drawn A label ∷ S)
  create_shown =
      record {
        fit = edited_fit t t' k.fit d.edited;
        solids = λ v. (
          λ m. ⊎_elim (λ e. record { at = at; solid = d.adds.new; is = d.adds.is ∙ sym e }) (λ n. old_shown v ((k.solids v).0 n)) (Memᴰ.cases_cons m),
          new_among v,
        );
        once = Distinct.more not_there k.once;
        labels = λ v m. ⊎_elim (λ e. subst (λ v. v.paint.label < 2 ^ 32) (sym e) b) (k.labels v) (Memᴰ.cases_cons m);
      }

-- ---- delete
module _ (t : List ℤ) (S : List Tile) (k : Shown t S) (x y : ℕ) (t' : List ℤ) (at : ℕ) (d : DeleteDone t x y t' at) where
  -- only the solid taken holds the cell
  left_free : (i : ℕ) → SolidIn t i → i ≢ at → Has (tile_of t i) x y → ⊥
  left_free i s n h = n (fit_finds_one t k.fit x y i at (record { used = solid_used t i s; has = h }) d.allows.finds)

  left_shown : (v : Tile) → Shows t v → (Has v x y → ⊥) → Shows t' v
  left_shown v h n =
      let (s, e) = d.removes.kept h.at h.solid (λ e. n (subst (λ v. Has v x y) (ap (tile_of t) (sym e) ∙ h.is) d.allows.finds.has)) in
      record { at = h.at; solid = s; is = e ∙ h.is }

  left_among : (v : Tile) → Shows t' v → Among (without x y S) v
  left_among v h =
      let (o, n) = d.removes.only h.at h.solid in
      let e : tile_of t h.at ≡ v = sym (d.removes.kept h.at o n).1 ∙ h.is in
      without_among x y S v ((k.solids v).1 (record { at = h.at; solid = o; is = e }))
      (λ c. left_free h.at o n (subst (λ v. Has v x y) (sym e) c))

  pub delete_shown : Shown t' (without x y S)
  delete_shown =
      record {
        fit = edited_fit t t' k.fit d.edited;
        solids = λ v. (λ m. let (a, n) = among_without x y S v m in left_shown v ((k.solids v).0 a) n, left_among v);
        once = distinct_without x y S k.once;
        labels = λ v m. k.labels v (among_without x y S v m).0;
      }

-- ---- load
pub built_shown : (t : List ℤ) → SizeRight t → (bs : List ℕ) (m n : ℕ) (u : List ℤ) → m ≡ n → Built (length t) bs m u → Shown u (filed bs n)
unfolding filed
built_shown t s bs m zero u e Built.none = fresh_shown t s
built_shown t s bs m (suc n) u e Built.none = absurd (omega arith)
built_shown t s bs m zero u e (Built.more {n = k} b i c) = absurd (omega arith)
built_shown t s bs m (suc n) u e (Built.more {n = k} {u = w} b i c) =
    let q : k ≡ n = omega arith in
    create_shown w (filed bs n) (built_shown t s bs k n w q b) (area_in bs n) (saved_at bs n).label (filed_label bs n) u i
    (subst (λ n. CreateDone w (area_in bs n) (saved_at bs n).label u i) q c)

pub same_shown : (t t' : List ℤ) (S : List Tile) → Shown t S → t' ≡ t → Shown t' S
same_shown t t' S k w = subst (λ t. Shown t S) (sym w) k

-- ---- what follows: the table is sound for the account's own solids
module _ (t : List ℤ) (S : List Tile) (k : Shown t S) where
  of_account : (j : ℕ) → In (set_of S) j → Shows t (get_or S j blank)
  of_account j u = (k.solids (get_or S j blank)).0 (at_among S j u.below)

  account_same : SameSolids (own_solids t) (set_of S)
  account_same =
      record {
        there = λ i u. let (j, h, e) = among_at S (tile_of t i) ((k.solids (tile_of t i)).1 (shows t i (in_solid t i u))) in (j, record { below = h; is = tt }, e);
        back = λ j u. let h = of_account j u in (h.at, solid_in t h.at h.solid, h.is);
      }

  account_apart : Apart (set_of S)
  account_apart =
      let a = own_apart t k.fit in
      record {
        kind = λ j u. let h = of_account j u in subst (λ v. v.paint.kind ≡ SOLID) h.is h.solid.kind;
        limits = λ j u. let h = of_account j u in subst Limits h.is (a.limits h.at (solid_in t h.at h.solid));
        apart = λ i j x y u w p q.
            let h = of_account i u in
            let g = of_account j w in
            let e = a.apart h.at g.at x y (solid_in t h.at h.solid) (solid_in t g.at g.solid)
            (subst (λ v. Has v x y) (sym h.is) p) (subst (λ v. Has v x y) (sym g.is) q) in
            distinct_at S k.once i j u.below w.below (sym h.is ∙ ap (tile_of t) e ∙ g.is);
      }

  account_drawn : Drawn (records_of t) (tile_of t) (set_of S)
  account_drawn =
      let d = own_drawn t k.fit in
      record {
        each = λ i u. same_tile_of (own_solids t) (set_of S) account_same (tile_of t i) (d.each i u);
        all = λ v o. d.all v (same_tile_of (set_of S) (own_solids t) (same_turned (own_solids t) (set_of S) account_same) v o);
        once = d.once;
      }

  account_number : length S ≡ solids_in t
  account_number = omega (arith, set_number S, drawn_count (records_of t) (tile_of t) (set_of S) account_apart account_drawn)

  account_for : SoundFor t (set_of S)
  account_for =
      let f = k.fit.sound.for in
      record {
        apart = account_apart;
        few = omega (arith, set_number S, account_number, (fit_forms t k.fit).few);
        drawn = account_drawn;
        stitched = f.stitched;
        free = f.free;
      }

  space_strip : (i : ℕ) → num t i KIND ≡ SPACE → TileOf (set_of S) (tile_of t i)
      → Strip (set_of S) (num t i LEFT) (num t i BOTTOM) (num t i RIGHT) (num t i TOP)
  space_strip i e (TileOf.solid j u c) = absurd (omega (arith, ap (λ v. v.paint.kind) c, account_apart.kind j u))
  space_strip i e (TileOf.space c s) = s

  pub shown_kept : Kept t S
  shown_kept =
      let f = fit_forms t k.fit in
      record {
        size = k.fit.size;
        sound = k.fit.sound;
        solids = k.solids;
        once = k.once;
        labels = k.labels;
        number = account_number;
        fits = omega (arith, account_number, f.few);
        held = λ x y p. one_holder (records_of t) (tile_of t) f.widest x y p;
        spaces = λ i u e. space_strip i e (account_drawn.each i u);
        strips = λ l b r p s.
            let (i, u, e) = account_drawn.all (space_tile l b r p) (TileOf.space (record { kind = refl; label = refl }) s) in
            record { at = i; used = u; is = e };
        stitched = k.fit.sound.for.stitched;
        few = sound_three t k.fit.size.most k.fit.sound;
        for = account_for;
      }

pub built_kept : (t : List ℤ) → SizeRight t → (bs : List ℕ) (n : ℕ) (u : List ℤ) → Built (length t) bs n u → Kept u (filed bs n)
built_kept t s bs n u b = shown_kept u (filed bs n) (built_shown t s bs n n u refl b)
