-- The calls on saved layouts: how the save of a sound table and the creates of a load give the promises. Assumes nothing.
use Rattle.std.specs.Prelude.{◌≡◌, refl, List, ℕ, ◌+◌, ◌*◌, ◌/◌, ◌%◌, ◌≤◌, ◌<◌, ◌^◌, ℤ, pos, length, Result}
use Rattle.std.proofs.Common.{sym, ap, ◌∙◌, subst, arith}
use Rattle.table.specs.Words.{WIDTH, LEAST, MOST}
use Rattle.table.specs.Sound.{SizeRight, UsedIn, Sound, solids_in}
use Rattle.table.specs.Fresh.{fresh_table}
use Rattle.table.specs.FreshSound.{fresh_length, fresh_one, fresh_no_solid}
use Rattle.table.proofs.FreshSound.{fresh_sound}
use Rattle.layout.specs.Bytes.{saved_at, SAVED}
use Rattle.layout.specs.declared.bytes.Saved.{Saved}
use Rattle.layout.specs.Order.{Saves}
use Rattle.layout.specs.OneOrder.{order_length, saves_bytes}
use Rattle.layout.proofs.OneOrder.{some_order}
use Rattle.ushanderi.specs.Answers.{SIZE, SHORT, FILE, answered, accepted, without_cell}
use Rattle.ushanderi.specs.Promises.{Fit, CreateRefuses, CreateDone, SaveSays, area_in, Built, LoadStops, LoadSays}
use Rattle.ushanderi.specs.Reading.{fit_forms}
use Rattle.ushanderi.specs.Editing.{CreateEnds, refusal, adds_one}
use Rattle.ushanderi.specs.declared.answer.MetAnswer.{MetAnswer}

-- ---- save

-- a number of bytes is a word's
pub save_low : (t : List ℤ) → Fit t → SAVED * solids_in t < 2 ^ 31
save_low t f = omega (arith, (fit_forms t f).few, f.size.most)

pub save_short : (t : List ℤ) (out : List ℕ) (n : ℕ) → Fit t → n ≡ SAVED * solids_in t → length out < n → SaveSays t out out (answered SHORT n)
save_short t out n f e h =
    let (ks, l) = some_order t (fit_forms t f) f.size in
    let q : n ≡ SAVED * length ks = e ∙ ap (λ m. SAVED * m) (sym (order_length t ks l)) in
    SaveSays.short f ks l (omega arith) (ap (answered SHORT) q) refl

pub save_done : (t : List ℤ) (out out' : List ℕ) (n : ℕ) → Fit t → SAVED * solids_in t ≤ length out → Saves t out out' n → SaveSays t out out' (accepted n)
save_done t out out' n f h s = SaveSays.done f n s (omega (arith, saves_bytes t out out' n s)) refl

-- ---- load: the loop has made the creates of n records, on the fresh plane t₀, and has come to t

pub record Loading (t₀ : List ℤ) (bs : List ℕ) (t : List ℤ) (from n : ℕ) : Type 0 where
  pub built : Built (length t₀) bs n t
  pub fit : Fit t
  pub size : length t ≡ length t₀
  pub solids : n ≡ solids_in t
  pub used : UsedIn t from

pub fresh_long : (t t₀ : List ℤ) → SizeRight t → t₀ ≡ fresh_table (length t) → length t₀ ≡ length t
fresh_long t t₀ z e = ap length e ∙ fresh_length (length t) (omega (arith, z.least))

pub loading_none : (t t₀ : List ℤ) (bs : List ℕ) → SizeRight t → t₀ ≡ fresh_table (length t) → Loading t₀ bs t₀ 0 0
loading_none t t₀ bs z e = subst (λ u. Loading u bs u 0 0) (sym e) (first (length t) (omega (arith, z.least)) z.whole z.least z.most)
  where
    first : (words : ℕ) → WIDTH ≤ words → words % WIDTH ≡ 0 → LEAST ≤ words / WIDTH → words / WIDTH ≤ MOST
        → Loading (fresh_table words) bs (fresh_table words) 0 0
    first words h w l m =
        let q = fresh_length words h in
        record {
          built = subst (λ n. Built n bs 0 (fresh_table words)) (sym q) Built.none;
          fit = record { size = record { whole = ap (λ n. n % WIDTH) q ∙ w; least = omega arith; most = omega arith }; sound = fresh_sound words h m };
          size = refl;
          solids = sym (fresh_no_solid words h m);
          used = record { below = omega arith; used = λ f. omega (arith, (fresh_one words h).kind) };
        }

module _ (t₀ : List ℤ) (bs : List ℕ) (t : List ℤ) (from n : ℕ) (l : Loading t₀ bs t from n) where
  pub loading_more : (t' : List ℤ) (k : ℕ) → CreateDone t (area_in bs n) (saved_at bs n).label t' k → Loading t₀ bs t' k (n + 1)
  loading_more t' k d =
      let e = d.edited.size in
      let z = d.allows.fit.size in
      record {
        built = Built.more l.built k d;
        fit = record { size = record { whole = ap (λ n. n % WIDTH) e ∙ z.whole; least = omega arith; most = omega arith }; sound = d.edited.sound };
        size = e ∙ l.size;
        solids = omega (arith, l.solids, adds_one t t' k _ e d.adds);
        used = record { below = d.adds.new.below; used = λ f. omega (arith, d.adds.new.kind) };
      }

  -- as many records as the table takes, at most
  pub loading_low : n < 2 ^ 31
  loading_low = omega (arith, l.solids, save_low t l.fit)

  pub load_done : (u : List ℤ) → SizeRight u → length bs % SAVED ≡ 0 → length t₀ ≡ length u → n ≡ length bs / SAVED
      → LoadSays u bs t (without_cell (accepted n))
  load_done u z w e q =
      LoadSays.done z w (subst (λ m. Built m bs (length bs / SAVED) t) e (subst (λ m. Built (length t₀) bs m t) q l.built)) (ap (λ n. without_cell (accepted n)) q)

  pub load_stopped : (u t' : List ℤ) (a b : MetAnswer) → SizeRight u → length bs % SAVED ≡ 0 → length t₀ ≡ length u → n < length bs / SAVED
      → CreateRefuses t (area_in bs n) (saved_at bs n).label a → t' ≡ fresh_table (length t)
      → b ≡ without_cell (record { number = a.number; value = pos n }) → LoadSays u bs t' b
  load_stopped u t' a b z w e h c q r =
      let f = refusal t (area_in bs n) (saved_at bs n).label a c in
      LoadSays.stopped
      (LoadStops.stops z w n f.number t a h (subst (λ m. Built m bs n t) e l.built) c f.is
      (r ∙ ap (λ z. without_cell (record { number = z; value = pos n })) f.is))
      (q ∙ ap fresh_table (l.size ∙ e))

-- the record read is the file's
pub load_ends_one : (u : List ℤ) (bs : List ℕ) (n : ℕ) (u' : List ℤ) (c : Result ℕ MetAnswer) (s : Saved) → s ≡ saved_at bs n
    → CreateEnds u (record { left = s.left; bottom = s.bottom; right = s.right; top = s.top }) s.label u' c
    → CreateEnds u (area_in bs n) (saved_at bs n).label u' c
load_ends_one u bs n u' c s e h =
    subst (λ s. CreateEnds u (record { left = s.left; bottom = s.bottom; right = s.right; top = s.top }) s.label u' c) e h

-- ---- what a load leaves

-- the size of a table is its length's
size_of : (t u : List ℤ) → SizeRight t → length u ≡ length t → SizeRight u
size_of t u z e = record { whole = ap (λ n. n % WIDTH) e ∙ z.whole; least = omega (arith, z.least); most = omega (arith, z.most) }

module _ (t : List ℤ) (bs : List ℕ) (z : SizeRight t) where
  pub built_length : {n : ℕ} {u : List ℤ} → Built (length t) bs n u → length u ≡ length t
  built_length Built.none = fresh_length (length t) (omega (arith, z.least))
  built_length (Built.more b k d) = d.edited.size ∙ built_length b

  -- a table that a load built is sound, and has a solid for each record
  pub built_fit : {n : ℕ} {u : List ℤ} → Built (length t) bs n u → Fit u
  built_fit {n} {u} b = record { size = size_of t u z (built_length b); sound = go b }
    where
      go : {n : ℕ} {u : List ℤ} → Built (length t) bs n u → Sound u
      go Built.none = fresh_sound (length t) (omega (arith, z.least)) z.most
      go (Built.more b k d) = d.edited.sound

  pub built_solids : {n : ℕ} {u : List ℤ} → Built (length t) bs n u → solids_in u ≡ n
  built_solids Built.none = fresh_no_solid (length t) (omega (arith, z.least)) z.most
  built_solids (Built.more {n} {u} {u'} b k d) = omega (arith, built_solids b, adds_one u u' k _ d.edited.size d.adds)

-- the two ends of a load: a sound table of the same length, or a refusal whose number and value are words'
pub data Ends (t t' : List ℤ) (a : MetAnswer) : Type 0 where
  well : (n : ℕ) → a ≡ without_cell (accepted n) → Fit t' → length t' ≡ length t → Ends t t' a
  not : (number value : ℕ) → a ≡ without_cell (answered number value) → 0 < number → number < 2 ^ 31 → value < 2 ^ 31 → Ends t t' a

pub load_ends : (t : List ℤ) (bs : List ℕ) (t' : List ℤ) (a : MetAnswer) → LoadSays t bs t' a → Ends t t' a
load_ends t bs t' a (LoadSays.size n e q) = not SIZE 0 e (omega arith) (omega arith) (omega arith)
load_ends t bs t' a (LoadSays.file z n e q) = not FILE 0 e (omega arith) (omega arith) (omega arith)
load_ends t bs t' a (LoadSays.stopped (LoadStops.stops z w n number u r h b c d e) q) =
    let f = refusal u (area_in bs n) (saved_at bs n).label r c in
    let s : number ≡ f.number = let p : pos number ≡ pos f.number = sym d ∙ f.is in cc in
    not number n e (omega (arith, f.some)) (omega (arith, f.low)) (omega (arith, built_solids t bs z b, save_low u (built_fit t bs z b)))
load_ends t bs t' a (LoadSays.done z w b e) = well (length bs / SAVED) e (built_fit t bs z b) (built_length t bs z b)
