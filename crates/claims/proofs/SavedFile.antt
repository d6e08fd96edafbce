-- What save writes is a file that load takes, of the same picture; and save depends on the picture alone. Assumes nothing.
use Rattle.std.specs.Prelude.{◌≡◌, ℕ, ◌/◌, ◌≤◌, ◌<◌, ℤ, length, get_or}
use Rattle.std.proofs.Math.Path.{ap}
use Rattle.std.proofs.Common.{sym, ◌∙◌, subst, arith}
use mathlib.Core.List.{List, map}
use Rattle.std.proofs.lemmas.List.{length-map}
use Rattle.std.proofs.Math.ListN.{get_or-map}
use Rattle.geometry.specs.Picture.{ZERO, Tile, Has, Limits}
use Rattle.geometry.specs.Tiling.{tile_ext, paint_ext}
use Rattle.table.specs.Words.{tile_of}
use Rattle.table.specs.Sound.{solids_in, SolidIn}
use Rattle.seek.specs.Meaning.{InArea, RectRight, Lists}
use Rattle.layout.specs.Bytes.{saved_at, SAVED}
use Rattle.layout.specs.BytesLaws.{file_length, saved_file_lem}
use Rattle.layout.specs.Order.{Comes, saved_of, LabelsFit}
use Rattle.layout.specs.OneOrder.{comes_asym, order_length}
use Rattle.layout.specs.RoundTrip.{solids_fit}
use Rattle.ushanderi.specs.Promises.{Fit, area_in}
use Rattle.claims.specs.AgreeChecks.{fit_forms}
use Rattle.claims.specs.AgreePicture.{own_apart, solid_in}
use Rattle.claims.specs.History.{Among, filed, filed_at, Kept}
use Rattle.claims.specs.HistoryAccount.{filed_among, among_filed}
use Rattle.claims.specs.Terms.{SamePicture, Clean}
use Rattle.claims.specs.Drawing.{area_of}
use Rattle.claims.specs.SavedFile.{area_by, saved_file, saved_number}

module _ (t : List ℤ) (f : Fit t) (fits : LabelsFit t) (ks : List ℕ) (l : Lists (SolidIn t) (Comes t) ks) where
  abbrev file : List ℕ
  file = saved_file t ks

  -- the nth solid that is saved
  abbrev nth : ℕ → Tile
  nth n = tile_of t (get_or ks n 0)

  nth_limits : (n : ℕ) → n < length ks → Limits (nth n)
  nth_limits n h = (own_apart t f).limits (get_or ks n 0) (solid_in t (get_or ks n 0) (l.each n h))

  -- no two of them share a cell
  nth_apart : (m n x y : ℕ) → m < n → n < length ks → Has (nth m) x y → Has (nth n) x y → ⊥
  nth_apart m n x y h b p q =
      let e = (own_apart t f).apart (get_or ks m 0) (get_or ks n 0) x y (solid_in t (get_or ks m 0) (l.each m (omega arith))) (solid_in t (get_or ks n 0) (l.each n b)) p q in
      let c : Comes t (get_or ks n 0) (get_or ks n 0) = subst (λ k. Comes t k (get_or ks n 0)) e (l.order m n h b) in
      comes_asym t (get_or ks n 0) (get_or ks n 0) c c

  -- ---- the file is clean, and its solids are the table's

  saved_nth : (n : ℕ) → n < length ks → saved_at file n ≡ saved_of t (get_or ks n 0)
  saved_nth n h =
      saved_file_lem (map (saved_of t) ks) n (saved_of t 0) (solids_fit t (fit_forms t f) fits ks l) (omega (arith, length-map ks (saved_of t)))
      ∙ get_or-map (saved_of t) ks n 0

  area_nth : (n : ℕ) → n < length ks → area_in file n ≡ area_of (nth n)
  unfolding saved_of
  area_nth n h = ap (λ s. area_by s) (saved_nth n h)

  label_nth : (n : ℕ) → n < length ks → (saved_at file n).label ≡ (nth n).paint.label
  unfolding saved_of
  label_nth n h = ap (λ s. s.label) (saved_nth n h)

  filed_nth : (n : ℕ) → n < length ks → filed_at file n ≡ nth n
  filed_nth n h =
      let e = area_nth n h in
      tile_ext (filed_at file n) (nth n)
      (record { left = ap (λ R. R.left) e; bottom = ap (λ R. R.bottom) e; right = ap (λ R. R.right) e; top = ap (λ R. R.top) e })
      (paint_ext (filed_at file n).paint (nth n).paint (sym (l.each n h).kind) (label_nth n h))

  in_nth : (n x y : ℕ) → n < length ks → InArea (area_in file n) x y → Has (nth n) x y
  in_nth n x y h i = let j : InArea (area_of (nth n)) x y = subst (λ R. InArea R x y) (area_nth n h) i in omega (arith, j)

  pub saved_clean : (N : ℕ) → solids_in t ≤ N → Clean file N
  saved_clean N room = record {
    whole = omega (arith, file_length (map (saved_of t) ks));
    rect = λ n h.
        let b : n < length ks = omega (arith, saved_number t ks) in
        let r : RectRight (area_of (nth n)) = omega (arith, nth_limits n b) in
        subst RectRight (sym (area_nth n b)) r;
    label = λ n h. let b : n < length ks = omega (arith, saved_number t ks) in subst (λ m. ZERO < m) (sym (label_nth n b)) (nth_limits n b).label;
    apart = λ m n x y h c p q.
        let b : n < length ks = omega (arith, saved_number t ks) in
        nth_apart m n x y h b (in_nth m x y (omega arith) p) (in_nth n x y b q);
    few = omega (arith, saved_number t ks, order_length t ks l);
  }

  pub saved_picture : (u : List ℤ) → Kept u (filed file (length file / SAVED)) → SamePicture t u
  saved_picture u k v = (
    λ s.
        let (n, h, e) = l.all s.at s.solid in
        let q = filed_among file (length file / SAVED) n (omega (arith, saved_number t ks)) in
        (k.solids v).0 (subst (Among (filed file (length file / SAVED))) (filed_nth n h ∙ ap (tile_of t) e ∙ s.is) q),
    λ s.
        let (n, h, e) = among_filed file (length file / SAVED) v ((k.solids v).1 s) in
        let b : n < length ks = omega (arith, saved_number t ks) in
        record { at = get_or ks n 0; solid = l.each n b; is = sym (filed_nth n b) ∙ sym e },
  )
