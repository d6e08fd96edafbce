-- Wrong answers that no promise allows, beside the shams: each lemma says what every allowed answer keeps to. Assumes nothing.
use Rattle.std.specs.Prelude.{◌≡◌, refl, ◌≢◌, ◌⊎◌, List, [], map, ℕ, ◌+◌, ◌-◌, ◌*◌, ◌%◌, ◌≤◌, ◌<◌, ℤ, pos, Float, length, get_or, take, drop}
use Rattle.std.proofs.Common.{sym, ap₂, ◌∙◌, subst, ⊎_elim, zero-add, add-zero, zero-mul, mul-pos, arith, length-drop, drop_at, ext_get_or, get_or-drop}
use Rattle.std.proofs.Math.Path.{ap}
use Rattle.std.proofs.Math.Nat.{sub-zero, zero-div, zero-mod}
use Rattle.std.proofs.lemmas.List.{length-map}
use Rattle.geometry.specs.Picture.{Has, Side, top, right, bottom, left}
use Rattle.geometry.specs.Tiling.{space_is}
use Rattle.table.specs.Words.{LEFT, BOTTOM, RIGHT, TOP, records_of, num, tile_of}
use Rattle.table.specs.Sound.{SizeRight, Sound, UsedIn, capacity, solids_in, spaces_in, SolidIn, SpaceIn}
use Rattle.table.specs.Fresh.{fresh_table}
use Rattle.table.specs.View.{Numbers, Places, Slice}
use Rattle.table.specs.Forms.{used_is}
use Rattle.table.specs.Examples.{one, one_spaces, one_solids}
use Rattle.seek.specs.Meaning.{Area}
use Rattle.seek.specs.Find.{Finds}
use Rattle.seek.specs.Neighbours.{Touches, Neighbours}
use Rattle.density.specs.Meaning.{covered, columns_of, windows_of, window_at, count_of}
use Rattle.density.specs.Shares.{float, quotient, share_of}
use Rattle.density.specs.ShareOrder.{share_is}
use Rattle.density.specs.Report.{Written}
use Rattle.density.specs.Windows.{some_window}
use Rattle.density.specs.ShareLaws.{share_filled}
use Rattle.density.specs.Reporting.{small, count_most}
use Rattle.density.specs.declared.windows.Report.{Report}
use Rattle.layout.specs.Order.{saved_of}
use Rattle.layout.specs.Bytes.{file_bytes, SAVED}
use Rattle.layout.specs.BytesLaws.{file_length}
use Rattle.layout.specs.OneOrder.{saves_bytes}
use Rattle.ushanderi.specs.Answers.{DONE, FULL, SHORT, answered, accepted, without_cell, reported, unreported}
use Rattle.ushanderi.specs.declared.answer.Answer.{Answer}
use Rattle.ushanderi.specs.declared.answer.MetAnswer.{MetAnswer}
use Rattle.ushanderi.specs.declared.reports.DensityAnswer.{DensityAnswer}
use Rattle.ushanderi.specs.Edits.{label_in}
use Rattle.ushanderi.specs.Promises.{Unfit, Fit, FreshSays, CheckSays, ViewSays, FindSays, listed, NeighboursSays, EnumerateSays, DensitySays, CreateRefuses, CreateSays, DeleteSays, SaveSays, LoadStops, LoadSays}
use Rattle.claims.specs.AgreeChecks.{fit_forms, number_is, met_number, number_one, not_done, unfit_not_done}
use Rattle.claims.specs.AgreeReports.{report_number, density_done}
use Rattle.claims.specs.AgreeCreate.{edited_fit, create_done}
use Rattle.claims.specs.AgreeDelete.{delete_done}
use Rattle.claims.specs.Allowed.{deletes}
use Rattle.claims.specs.Density.{entry, entry_share}
use Rattle.claims.specs.Shams.{Refuses}
use Rattle.claims.specs.Terms.{Keeps, Stop}

same_value : {m n i j : ℕ} → answered m i ≡ answered n j → i ≡ j
same_value {i = i} {j = j} e = let z : pos i ≡ pos j = ap (λ a. a.value) e in cc

-- ---- a refusal that writes: SHORT that writes what fits, OCCUPIED or FULL that writes, a fresh plane before FILE
pub record Unwritten : Type 0 where
  pub fresh : (t t' : List ℤ) (a : Answer) → FreshSays t t' a → Refuses a.number → t' ≡ t
  pub neighbours : (t : List ℤ) (x y : ℕ) (side : ℤ) (out out' : List ℤ) (a : Answer) → NeighboursSays t x y side out out' a → Refuses a.number → out' ≡ out
  pub enumerate : (t : List ℤ) (R : Area) (out out' : List ℤ) (a : Answer) → EnumerateSays t R out out' a → Refuses a.number → out' ≡ out
  pub density : (t : List ℤ) (R : Area) (w h : ℕ) (out out' : List Float) (a : DensityAnswer) → DensitySays t R w h out out' a → Refuses a.number → out' ≡ out
  pub create : (t : List ℤ) (R : Area) (label : ℕ) (t' : List ℤ) (a : MetAnswer) → CreateSays t R label t' a → Refuses a.number → t' ≡ t
  pub delete : (t : List ℤ) (x y : ℕ) (t' : List ℤ) (a : Answer) → DeleteSays t x y t' a → Refuses a.number → t' ≡ t
  pub save : (t : List ℤ) (out out' : List ℕ) (a : Answer) → SaveSays t out out' a → Refuses a.number → out' ≡ out
  pub load : (t : List ℤ) (bs : List ℕ) (t' : List ℤ) (a : MetAnswer) → LoadSays t bs t' a → length bs % SAVED ≢ 0 → t' ≡ t

fresh_kept : (t t' : List ℤ) (a : Answer) → FreshSays t t' a → Refuses a.number → t' ≡ t
fresh_kept t t' a (FreshSays.size n e w) r = w
fresh_kept t t' a (FreshSays.done z e w) r = absurd (r (number_is e))

neighbours_kept : (t : List ℤ) (x y : ℕ) (side : ℤ) (out out' : List ℤ) (a : Answer) → NeighboursSays t x y side out out' a → Refuses a.number → out' ≡ out
neighbours_kept t x y side out out' a (NeighboursSays.unfit u w) r = w
neighbours_kept t x y side out out' a (NeighboursSays.point f n e w) r = w
neighbours_kept t x y side out out' a (NeighboursSays.side f p n e w) r = w
neighbours_kept t x y side out out' a (NeighboursSays.short f s i ks c h l o e w) r = w
neighbours_kept t x y side out out' a (NeighboursSays.done f s i ks c h l o e w) r = absurd (r (number_is e))

enumerate_kept : (t : List ℤ) (R : Area) (out out' : List ℤ) (a : Answer) → EnumerateSays t R out out' a → Refuses a.number → out' ≡ out
enumerate_kept t R out out' a (EnumerateSays.unfit u w) r = w
enumerate_kept t R out out' a (EnumerateSays.rect f n e w) r = w
enumerate_kept t R out out' a (EnumerateSays.short f p ks d o e w) r = w
enumerate_kept t R out out' a (EnumerateSays.done f p ks d o e w) r = absurd (r (number_is e))

density_kept : (t : List ℤ) (R : Area) (w h : ℕ) (out out' : List Float) (a : DensityAnswer) → DensitySays t R w h out out' a → Refuses a.number → out' ≡ out
density_kept t R w h out out' a (DensitySays.unfit b u e z) r = z
density_kept t R w h out out' a (DensitySays.rect f n e z) r = z
density_kept t R w h out out' a (DensitySays.step f p n e z) r = z
density_kept t R w h out out' a (DensitySays.short f p s o e z) r = z
density_kept t R w h out out' a (DensitySays.done f p s o g m e) r = absurd (r (ap (λ a. a.number) e))

create_kept : (t : List ℤ) (R : Area) (label : ℕ) (t' : List ℤ) (a : MetAnswer) → CreateSays t R label t' a → Refuses a.number → t' ≡ t
create_kept t R label t' a (CreateSays.refuses o w) r = w
create_kept t R label t' a (CreateSays.done k d e) r = absurd (r (met_number e))

delete_kept : (t : List ℤ) (x y : ℕ) (t' : List ℤ) (a : Answer) → DeleteSays t x y t' a → Refuses a.number → t' ≡ t
delete_kept t x y t' a (DeleteSays.refuses o w) r = w
delete_kept t x y t' a (DeleteSays.done i d e) r = absurd (r (number_is e))

save_kept : (t : List ℤ) (out out' : List ℕ) (a : Answer) → SaveSays t out out' a → Refuses a.number → out' ≡ out
save_kept t out out' a (SaveSays.unfit u w) r = w
save_kept t out out' a (SaveSays.short f ks l o e w) r = w
save_kept t out out' a (SaveSays.done f n s o e) r = absurd (r (number_is e))

load_kept : (t : List ℤ) (bs : List ℕ) (t' : List ℤ) (a : MetAnswer) → LoadSays t bs t' a → length bs % SAVED ≢ 0 → t' ≡ t
load_kept t bs t' a (LoadSays.size n e w) d = w
load_kept t bs t' a (LoadSays.file z n e w) d = w
load_kept t bs t' a (LoadSays.stopped (LoadStops.stops z r n number u o h b c q e) w) d = absurd (d r)
load_kept t bs t' a (LoadSays.done z r b e) d = absurd (d r)

pub unwritten : Unwritten
unwritten = record {
  fresh = fresh_kept;
  neighbours = neighbours_kept;
  enumerate = enumerate_kept;
  density = density_kept;
  create = create_kept;
  delete = delete_kept;
  save = save_kept;
  load = load_kept;
}

-- a load refused for one of its records, that keeps the records before it
pub stopped_fresh : (t : List ℤ) (bs : List ℕ) (t' : List ℤ) (a : MetAnswer) → SizeRight t → length bs % SAVED ≡ 0 → LoadSays t bs t' a → Refuses a.number
    → t' ≡ fresh_table (length t)
stopped_fresh t bs t' a z d (LoadSays.size n e w) r = absurd (n z)
stopped_fresh t bs t' a z d (LoadSays.file y n e w) r = absurd (n d)
stopped_fresh t bs t' a z d (LoadSays.stopped c w) r = w
stopped_fresh t bs t' a z d (LoadSays.done y n b e) r = absurd (r (met_number e))

-- or that tells another index than that of the refused record
pub stopped_at : (t : List ℤ) (bs : List ℕ) (t' : List ℤ) (number n : ℕ) → (z : SizeRight t) → length bs % SAVED ≡ 0 → number ≢ DONE
    → LoadSays t bs t' (without_cell (answered number n)) → Stop t bs n number
stopped_at t bs t' number n z d r (LoadSays.size m e w) = absurd (m z)
stopped_at t bs t' number n z d r (LoadSays.file y m e w) = absurd (m d)
stopped_at t bs t' number n z d r (LoadSays.stopped (LoadStops.stops y q m c u k h b o l e) w) =
    let number_same : c ≡ number = number_one refl (sym (met_number e)) in
    let value_same : m ≡ n = number_one refl (sym (ap (λ a. a.value) e)) in
    subst (λ number. Stop t bs n number) number_same
    (subst (λ n. Stop t bs n c) value_same (record { before = u; built = b; refusal = k; refuses = o; is = l }))
stopped_at t bs t' number n z d r (LoadSays.done y q b e) = absurd (r (number_one refl (met_number e)))

-- ---- entries past the count changed
pub record RestKept : Type 0 where
  pub neighbours : (t : List ℤ) (x y : ℕ) (side : ℤ) (out out' : List ℤ) (n : ℕ) → NeighboursSays t x y side out out' (accepted n) → drop n out' ≡ drop n out
  pub enumerate : (t : List ℤ) (R : Area) (out out' : List ℤ) (n : ℕ) → EnumerateSays t R out out' (accepted n) → drop n out' ≡ drop n out
  pub density : (t : List ℤ) (R : Area) (w h : ℕ) (out out' : List Float) (n : ℕ) (r : Report) → DensitySays t R w h out out' (reported n r)
      → drop n out' ≡ drop n out
  pub save : (t : List ℤ) (out out' : List ℕ) (n : ℕ) → SaveSays t out out' (accepted n) → drop n out' ≡ drop n out

listed_rest : (ks : List ℕ) (out out' : List ℤ) (n : ℕ) → accepted n ≡ accepted (length ks) → out' ≡ listed ks out → drop n out' ≡ drop n out
listed_rest ks out out' n e w =
    subst (λ n. drop n out' ≡ drop n out) (sym (same_value e))
    (ap (drop (length ks)) w ∙ drop_at (map pos ks) (drop (length ks) out) (length ks) (length-map ks pos))

neighbours_rest : (t : List ℤ) (x y : ℕ) (side : ℤ) (out out' : List ℤ) (n : ℕ) → NeighboursSays t x y side out out' (accepted n) → drop n out' ≡ drop n out
neighbours_rest t x y side out out' n (NeighboursSays.unfit u w) = ap (drop n) w
neighbours_rest t x y side out out' n (NeighboursSays.point f p e w) = ap (drop n) w
neighbours_rest t x y side out out' n (NeighboursSays.side f p q e w) = ap (drop n) w
neighbours_rest t x y side out out' n (NeighboursSays.short f s i ks c h l o e w) = ap (drop n) w
neighbours_rest t x y side out out' n (NeighboursSays.done f s i ks c h l o e w) = listed_rest ks out out' n e w

enumerate_rest : (t : List ℤ) (R : Area) (out out' : List ℤ) (n : ℕ) → EnumerateSays t R out out' (accepted n) → drop n out' ≡ drop n out
enumerate_rest t R out out' n (EnumerateSays.unfit u w) = ap (drop n) w
enumerate_rest t R out out' n (EnumerateSays.rect f p e w) = ap (drop n) w
enumerate_rest t R out out' n (EnumerateSays.short f p ks d o e w) = ap (drop n) w
enumerate_rest t R out out' n (EnumerateSays.done f p ks d o e w) = listed_rest ks out out' n e w

written_rest : (t : List ℤ) (R : Area) (w h : ℕ) (out out' : List Float) (n : ℕ) → Written t R w h out out' n → drop n out' ≡ drop n out
written_rest t R w h out out' n p =
    ext_get_or (float 0) (drop n out') (drop n out) (length-drop n out' ∙ ap (λ k. k - n) p.long ∙ sym (length-drop n out))
    (λ m l. get_or-drop n out' m (float 0) ∙ p.rest (n + m) (omega arith) ∙ sym (get_or-drop n out m (float 0)))

density_rest : (t : List ℤ) (R : Area) (w h : ℕ) (out out' : List Float) (n : ℕ) (r : Report) → DensitySays t R w h out out' (reported n r)
    → drop n out' ≡ drop n out
density_rest t R w h out out' n r (DensitySays.unfit b u e z) = ap (drop n) z
density_rest t R w h out out' n r (DensitySays.rect f p e z) = ap (drop n) z
density_rest t R w h out out' n r (DensitySays.step f p q e z) = ap (drop n) z
density_rest t R w h out out' n r (DensitySays.short f p s o e z) = ap (drop n) z
density_rest t R w h out out' n r (DensitySays.done f p s o g m e) =
    subst (λ n. drop n out' ≡ drop n out) (sym (same_windows e)) (written_rest t R w h out out' (windows_of R w h) m.written)
  where
    same_windows : {i j : ℕ} {p q : Report} → reported i p ≡ reported j q → i ≡ j
    same_windows {i} {j} e = let z : pos i ≡ pos j = ap (λ a. a.value) e in cc

save_rest : (t : List ℤ) (out out' : List ℕ) (n : ℕ) → SaveSays t out out' (accepted n) → drop n out' ≡ drop n out
save_rest t out out' n (SaveSays.unfit u w) = ap (drop n) w
save_rest t out out' n (SaveSays.short f ks l o e w) = ap (drop n) w
save_rest t out out' n (SaveSays.done f m s o e) =
    let saved = map (saved_of t) s.solids in
    subst (λ n. drop n out' ≡ drop n out) (sym (same_value e))
    (ap (drop m) s.writes ∙ drop_at (file_bytes saved) (drop m out) m (file_length saved ∙ ap (λ n. SAVED * n) (length-map s.solids (saved_of t)) ∙ sym s.number))

pub rest_kept : RestKept
rest_kept = record { neighbours = neighbours_rest; enumerate = enumerate_rest; density = density_rest; save = save_rest }

-- ---- what is not counted, held or met
-- check: an unsound table accepted, or another count than that of the solids, as of the used records
pub check_counts : (t : List ℤ) (n : ℕ) → CheckSays t (accepted n) → Sound t × (n ≡ solids_in t)
check_counts t n (CheckSays.unfit u) = absurd (unfit_not_done t (accepted n) u refl)
check_counts t n (CheckSays.done f e) = (f.sound, same_value e)

-- view: words for a number of no record
pub view_empty : (lent part : Slice) (index : ℤ) → ViewSays lent index part → ((i : ℕ) → Numbers lent.now index i → ⊥) → part.now ≡ []
view_empty lent part index v n = go v.place
  where
    go : Places lent.now index v.at v.len → part.now ≡ []
    go (Places.nowhere m a e) = v.is.words ∙ ap (λ n. take n (drop v.at lent.now)) e
    go (Places.there i h a e) = absurd (n i h)

-- find: a record that its hint names and that does not hold the cell
pub find_holds : (t : List ℤ) (x y i : ℕ) → FindSays t x y (accepted i) → Finds t x y i
find_holds t x y i (FindSays.unfit u) = absurd (unfit_not_done t (accepted i) u refl)
find_holds t x y i (FindSays.point f n e) = absurd (not_done (number_is e) (λ e. omega arith) refl)
find_holds t x y i (FindSays.done f j h e) = subst (Finds t x y) (sym (same_value e)) h

-- the right and the upper edge counted as inside
pub right_edge_outside : (t : List ℤ) (x y i : ℕ) → FindSays t x y (accepted i) → num t i RIGHT ≢ x
right_edge_outside t x y i s e = omega (arith, (find_holds t x y i s).has)

pub top_edge_outside : (t : List ℤ) (x y i : ℕ) → FindSays t x y (accepted i) → num t i TOP ≢ y
top_edge_outside t x y i s e = omega (arith, (find_holds t x y i s).has)

module _ (t : List ℤ) (f : Fit t) (i : ℕ) (u : UsedIn t i) where
  apart_from_itself : (s : Side) → Touches s (tile_of t i) (tile_of t i) → ⊥
  apart_from_itself right m = omega (arith, m.line, (fit_forms t f).good.formed i (used_is t i u))
  apart_from_itself left m = omega (arith, m.line, (fit_forms t f).good.formed i (used_is t i u))
  apart_from_itself top m = omega (arith, m.line, (fit_forms t f).good.formed i (used_is t i u))
  apart_from_itself bottom m = omega (arith, m.line, (fit_forms t f).good.formed i (used_is t i u))

  -- neighbours: the tile itself among them
  pub not_itself : (s : Side) (ks : List ℕ) (n : ℕ) → Neighbours t s i ks → n < length ks → get_or ks n 0 ≢ i
  not_itself s ks n l h e = apart_from_itself s (subst (λ k. Touches s (tile_of t i) (tile_of t k)) e (l.each n h).touches)

  -- a tile above or below that shares a corner with the right side
  pub corner_outside : (ks : List ℕ) (n : ℕ) → Neighbours t right i ks → n < length ks
      → (num t (get_or ks n 0) TOP ≢ num t i BOTTOM) × (num t (get_or ks n 0) BOTTOM ≢ num t i TOP)
  corner_outside ks n l h = let m = (l.each n h).touches in (λ e. omega (arith, m.one), λ e. omega (arith, m.other))

  -- the right side from the bottom up
  pub not_upwards : (ks : List ℕ) (m n : ℕ) → Neighbours t right i ks → m < n → n < length ks → num t (get_or ks m 0) TOP ≤ num t (get_or ks n 0) BOTTOM → ⊥
  not_upwards ks m n l h k o =
      let formed = (fit_forms t f).good.formed in
      omega (
        arith,
        l.order m n h k,
        formed (get_or ks m 0) (used_is t (get_or ks m 0) (l.each m (omega arith)).used),
        formed (get_or ks n 0) (used_is t (get_or ks n 0) (l.each n k).used),
      )

-- save: another number of bytes
pub save_counts : (t : List ℤ) (out out' : List ℕ) (n : ℕ) → SaveSays t out out' (accepted n) → n ≡ SAVED * solids_in t
save_counts t out out' n (SaveSays.unfit u w) = absurd (unfit_not_done t (accepted n) u refl)
save_counts t out out' n (SaveSays.short f ks l o e w) = absurd (not_done (number_is e) (λ e. omega arith) refl)
save_counts t out out' n (SaveSays.done f m s o e) = same_value e ∙ saves_bytes t out out' m s

-- ---- density
-- the rectangle of that width and height in an area's upper left corner
abbrev pub corner_of : Area → ℕ → ℕ → Area
corner_of R w h = record { left = R.left; bottom = R.top - h; right = R.left + w; top = R.top }

corner_is : (R : Area) (w h : ℕ) → window_at R w h 0 0 ≡ corner_of R w h
corner_is R w h = rw (zero-mul w, zero-mul h, zero-add h, add-zero R.left, sub-zero R.top) refl

module _ (t : List ℤ) (R : Area) (w h : ℕ) (out out' : List Float) (a : DensityAnswer) (s : DensitySays t R w h out out' a) where
  -- a refusal that carries a share or a total
  pub refused_blank : Refuses a.number → (a.lowest ≡ float 0) × (a.highest ≡ float 0) × (a.covered ≡ pos 0)
  refused_blank r = go s
    where
      blank : {b : Answer} → a ≡ unreported b → (a.lowest ≡ float 0) × (a.highest ≡ float 0) × (a.covered ≡ pos 0)
      blank e = (ap (λ a. a.lowest) e, ap (λ a. a.highest) e, ap (λ a. a.covered) e)

      go : DensitySays t R w h out out' a → (a.lowest ≡ float 0) × (a.highest ≡ float 0) × (a.covered ≡ pos 0)
      go (DensitySays.unfit b u e z) = blank e
      go (DensitySays.rect f n e z) = blank e
      go (DensitySays.step f p n e z) = blank e
      go (DensitySays.short f p m o e z) = blank e
      go (DensitySays.done f p m o g q e) = absurd (r (ap (λ a. a.number) e))

  -- another number of windows, of a report or of SHORT
  pub windows_counted : (a.number ≡ pos DONE) ⊎ (a.number ≡ pos SHORT) → a.value ≡ pos (windows_of R w h)
  windows_counted k = go s
    where
      neither : {m value : ℕ} → a ≡ unreported (answered m value) → m ≢ DONE → m ≢ SHORT → ⊥
      neither e n o = ⊎_elim (λ h. n (number_one (report_number e) h)) (λ h. o (number_one (report_number e) h)) k

      go : DensitySays t R w h out out' a → a.value ≡ pos (windows_of R w h)
      go (DensitySays.unfit b (Unfit.size n d) e z) = absurd (neither (e ∙ ap unreported d) (λ e. omega arith) (λ e. omega arith))
      go (DensitySays.unfit b (Unfit.unsound y n d) e z) = absurd (neither (e ∙ ap unreported d) (λ e. omega arith) (λ e. omega arith))
      go (DensitySays.rect f n e z) = absurd (neither e (λ e. omega arith) (λ e. omega arith))
      go (DensitySays.step f p n e z) = absurd (neither e (λ e. omega arith) (λ e. omega arith))
      go (DensitySays.short f p m o e z) = ap (λ a. a.value) e
      go (DensitySays.done f p m o g q e) = ap (λ a. a.value) e

  module _ (d : a.number ≡ pos DONE) where
    -- a width or a height of 0 accepted
    pub sides_some : (w ≢ 0) × (h ≢ 0)
    sides_some = let g = density_done s d in (λ e. omega (arith, g.steps.wide), λ e. omega (arith, g.steps.high))

    -- the lowest of those windows alone that are not Bare
    pub lowest_bare : (n : ℕ) → n < windows_of R w h → count_of t R w h n ≡ 0 → a.lowest ≡ float 0
    unfolding share_of
    lowest_bare n l e =
        let g = density_done s d in
        let z : g.reports.least ≡ 0 = omega (arith, g.reports.least_is.least n l) in
        ap (λ a. a.lowest) g.is ∙ g.reports.lowest ∙ ap (λ c. share_of c (w * h)) z

    -- the highest of those alone that are not Filled
    pub highest_filled : (n : ℕ) → n < windows_of R w h → count_of t R w h n ≡ w * h → a.highest ≡ float 1
    highest_filled n l e =
        let g = density_done s d in
        let p = g.reports.most_is in
        let z : g.reports.most ≡ w * h = omega (arith, p.is, p.most n l, count_most t R g.rect w h g.steps p.at p.below) in
        ap (λ a. a.highest) g.is ∙ g.reports.highest ∙ ap (λ c. share_of c (w * h)) z ∙ share_filled (w * h) (mul-pos g.steps.wide g.steps.high)

    -- shares of the area's cells: an entry is the count divided by the window's cells, and Bare and Filled are no exceptions
    pub by_window : (n : ℕ) → n < windows_of R w h → entry out' n ≡ quotient (count_of t R w h n) (w * h)
    by_window n l =
        let g = density_done s d in
        entry_share t R w h out out' a s d n l
        ∙ share_is (count_of t R w h n) (w * h) (mul-pos g.steps.wide g.steps.high) (count_most t R g.rect w h g.steps n l)
        (small R g.rect w h g.steps).cells

    -- the bottom row first: the first entry is the share of the window in the area's upper left corner
    pub corner_first : entry out' 0 ≡ share_of (covered t (corner_of R w h)) (w * h)
    corner_first =
        let g = density_done s d in
        let C = columns_of R w in
        entry_share t R w h out out' a s d 0 (some_window R g.rect w h g.steps)
        ∙ ap₂ (λ r c. share_of (covered t (window_at R w h r c)) (w * h)) (zero-div C) (zero-mod C)
        ∙ ap (λ A. share_of (covered t A) (w * h)) (corner_is R w h)

-- ---- edits
-- create: FULL while fewer than N solids are present, as where the used records are counted
pub full_counts : (t : List ℤ) (R : Area) (label : ℕ) (t' : List ℤ) (a : MetAnswer) → CreateSays t R label t' a → solids_in t < capacity (records_of t)
    → a.number ≢ pos FULL
full_counts t R label t' a (CreateSays.refuses (CreateRefuses.unfit b (Unfit.size n d) e) w) l h = omega (arith, number_one (met_number (e ∙ ap without_cell d)) h)
full_counts t R label t' a (CreateSays.refuses (CreateRefuses.unfit b (Unfit.unsound z n d) e) w) l h =
    omega (arith, number_one (met_number (e ∙ ap without_cell d)) h)
full_counts t R label t' a (CreateSays.refuses (CreateRefuses.rect f n e) w) l h = omega (arith, number_one (met_number e) h)
full_counts t R label t' a (CreateSays.refuses (CreateRefuses.label f r n e) w) l h = omega (arith, number_one (met_number e) h)
full_counts t R label t' a (CreateSays.refuses (CreateRefuses.occupied f r n x y i m e) w) l h = omega (arith, number_one (met_number e) h)
full_counts t R label t' a (CreateSays.refuses (CreateRefuses.full f r n m c e) w) l h = omega arith
full_counts t R label t' a (CreateSays.done k d e) l h = omega (arith, number_one (met_number e) h)

-- a solid moved to another record, by whatever a create answers
pub create_keeps : (t : List ℤ) (R : Area) (label : ℕ) (t' : List ℤ) (a : MetAnswer) → CreateSays t R label t' a → Keeps t t'
create_keeps t R label t' a (CreateSays.refuses o w) i s = subst (λ u. SolidIn u i × (tile_of u i ≡ tile_of t i)) (sym w) (s, refl)
create_keeps t R label t' a (CreateSays.done k d e) i s = d.adds.kept i s

-- delete: a solid that does not hold the cell moved or taken away
pub delete_keeps : (t : List ℤ) (x y : ℕ) (t' : List ℤ) (a : Answer) → DeleteSays t x y t' a → (i : ℕ) → SolidIn t i → (Has (tile_of t i) x y → ⊥)
    → SolidIn t' i × (tile_of t' i ≡ tile_of t i)
delete_keeps t x y t' a (DeleteSays.refuses o w) i s n = subst (λ u. SolidIn u i × (tile_of u i ≡ tile_of t i)) (sym w) (s, refl)
delete_keeps t x y t' a (DeleteSays.done k d e) i s n =
    d.removes.kept i s (λ q. n (subst (λ i. Has (tile_of t i) x y) (sym q) d.allows.finds.has))

-- another label than that of the solid at the cell
pub label_removed : (t : List ℤ) (x y i : ℕ) (t' : List ℤ) (n : ℕ) → Fit t → Finds t x y i → SolidIn t i → DeleteSays t x y t' (accepted n) → n ≡ label_in t i
label_removed t x y i t' n f h o s = same_value (deletes t f x y i h t' (accepted n) o s).0

-- remainders of equal span left stacked after a create or a delete
merged : (t : List ℤ) → Fit t → (i j : ℕ) → SpaceIn t i → SpaceIn t j → num t i LEFT ≡ num t j LEFT → num t i RIGHT ≡ num t j RIGHT
    → num t i TOP ≢ num t j BOTTOM
merged t f i j u v =
    (fit_forms t f).widest.strips.merged i j (space_is (records_of t) (tile_of t) i u.below u.kind) (space_is (records_of t) (tile_of t) j v.below v.kind)

pub create_merges : (t : List ℤ) (R : Area) (label : ℕ) (t' : List ℤ) (a : MetAnswer) → CreateSays t R label t' a → a.number ≡ pos DONE → (i j : ℕ) → SpaceIn t' i
    → SpaceIn t' j → num t' i LEFT ≡ num t' j LEFT → num t' i RIGHT ≡ num t' j RIGHT → num t' i TOP ≢ num t' j BOTTOM
create_merges t R label t' a s e = let d = (create_done s e).done in merged t' (edited_fit t t' d.allows.fit d.edited)

pub delete_merges : (t : List ℤ) (x y : ℕ) (t' : List ℤ) (a : Answer) → DeleteSays t x y t' a → a.number ≡ pos DONE → (i j : ℕ) → SpaceIn t' i → SpaceIn t' j
    → num t' i LEFT ≡ num t' j LEFT → num t' i RIGHT ≡ num t' j RIGHT → num t' i TOP ≢ num t' j BOTTOM
delete_merges t x y t' a s e = let d = (delete_done s e).done in merged t' (edited_fit t t' d.allows.fit d.edited)

-- no lower bound on the space tiles holds than 3n + 1: A alone has as many
pub bound_met : spaces_in one ≡ 3 * solids_in one + 1
bound_met = omega (arith, one_spaces, one_solids)
