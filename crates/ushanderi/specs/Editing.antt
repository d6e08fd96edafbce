-- The calls that change a plane: what a decision and an act of a create or a delete give, and how the edits of a sound table give the promises. Assumes nothing.
use Rattle.std.specs.Prelude.{◌≡◌, refl, ◌≢◌, List, ℕ, ◌+◌, ◌≤◌, ◌<◌, ◌^◌, ℤ, pos, length, Result, Ok, Err}
use Rattle.std.proofs.Common.{sym, ap, ◌∙◌, subst₂, arith, eq-eqb, ne_eqb, SFits, to_z, of_z}
use Rattle.std.specs.Int.{w32}
use Rattle.ruler.specs.Ruler.{ruler, ruler_bits}
use Rattle.geometry.specs.Cases.{eq_cases}
use Rattle.geometry.specs.Sums.{sum_set}
use Rattle.geometry.specs.Picture.{ZERO, SOLID, Tile}
use Rattle.geometry.specs.Tiling.{Kinded, tile_ext}
use Rattle.geometry.specs.Counting.{only, count}
use Rattle.table.specs.Words.{KIND, records_of, num, tile_of}
use Rattle.table.specs.Words
use Rattle.table.specs.Sound.{UsedIn, capacity, solid_at, solids_in, SolidIn, SpaceIn}
use Rattle.table.specs.Forms.{Forms}
use Rattle.table.proofs.Forms.{forms_sound}
use Rattle.seek.specs.Meaning.{Area}
use Rattle.seek.specs.Find.{Finds}
use Rattle.edit.specs.Tidy.{SameTile}
use Rattle.edit.specs.Create.{CanLay, Creates, creates_new}
use Rattle.edit.specs.Delete.{Deletes, CanShrink}
use Rattle.edit.proofs.Shrink.{shrink_room}
use Rattle.ushanderi.specs.Answers.{SIZE, UNSOUND, RECT, LABEL, OCCUPIED, FULL, accepted, answer_of}
use Rattle.ushanderi.specs.Edits.{drawn, Adds, Removes, Edited, label_in}
use Rattle.ushanderi.specs.Promises.{Unfit, Fit, FindSays, CreateRefuses, CreateAllows, CreateDone, CreateSays, DeleteRefuses, DeleteAllows, DeleteSays}
use Rattle.ushanderi.specs.Reading.{fit_forms, low_record, NotFound, found_at}
use Rattle.ushanderi.specs.declared.answer.Answer.{Answer}
use Rattle.ushanderi.specs.declared.answer.MetAnswer.{MetAnswer}
use Rattle.ushanderi.specs.declared.answer.Refusal.{Refusal}

-- ---- what a decision says, and what comes of a create

-- a decision: the refusal as it goes out, or the tile at which the search ended, where the new solid begins
abbrev pub CreateDecides : List ℤ → Area → ℕ → Result ℕ MetAnswer → Type 0
CreateDecides t A label (Err a) = CreateRefuses t A label a
CreateDecides t A label (Ok k) = UsedIn t k × CreateAllows t A label

abbrev pub CreateEnds : List ℤ → Area → ℕ → List ℤ → Result ℕ MetAnswer → Type 0
CreateEnds t A label t' (Ok k) = CreateDone t A label t' k
CreateEnds t A label t' (Err a) = CreateRefuses t A label a × (t' ≡ t)

abbrev pub DeleteDecides : List ℤ → ℕ → ℕ → Result ℕ Answer → Type 0
DeleteDecides t x y (Err a) = DeleteRefuses t x y a
DeleteDecides t x y (Ok i) = DeleteAllows t x y i

-- a create's refusal has a number from 1 on
pub record Refuses (a : MetAnswer) : Type 0 where
  pub number : ℕ
  pub is : a.number ≡ pos number
  pub some : 0 < number
  pub low : number < 2 ^ 31

pub refusal : (t : List ℤ) (A : Area) (label : ℕ) (a : MetAnswer) → CreateRefuses t A label a → Refuses a
refusal t A label a (CreateRefuses.unfit b (Unfit.size s e) w) =
    record { number = SIZE; is = ap (λ a. a.number) w ∙ ap (λ a. a.number) e; some = omega arith; low = omega arith }
refusal t A label a (CreateRefuses.unfit b (Unfit.unsound s n e) w) =
    record { number = UNSOUND; is = ap (λ a. a.number) w ∙ ap (λ a. a.number) e; some = omega arith; low = omega arith }
refusal t A label a (CreateRefuses.rect f r e) = record { number = RECT; is = ap (λ a. a.number) e; some = omega arith; low = omega arith }
refusal t A label a (CreateRefuses.label f r l e) = record { number = LABEL; is = ap (λ a. a.number) e; some = omega arith; low = omega arith }
refusal t A label a (CreateRefuses.occupied f r l x y i h e) = record { number = OCCUPIED; is = ap (λ a. a.number) e; some = omega arith; low = omega arith }
refusal t A label a (CreateRefuses.full f r l h c e) = record { number = FULL; is = ap (λ a. a.number) e; some = omega arith; low = omega arith }

-- ---- create

pub create_same : {t t' : List ℤ} {A B : Area} {l m : ℕ} {a : MetAnswer} → A ≡ B → l ≡ m → CreateSays t A l t' a → CreateSays t B m t' a
create_same {t} {t'} {A} {B} {l} {m} {a} p q s = subst₂ (λ A l. CreateSays t A l t' a) p q s

-- the record of a new solid is a word's
pub done_low : (t : List ℤ) (A : Area) (label : ℕ) (t' : List ℤ) (k : ℕ) → CreateDone t A label t' k → k < 2 ^ 31
done_low t A label t' k d = low_record t k d.allows.fit.size (omega (arith, d.adds.new.below, d.edited.size))

-- what a create on a sound table starts with: a tile to search from, a label that is a word's, and how many solids there are
pub record Ready (t : List ℤ) (from label solids : ℕ) : Type 0 where
  pub fit : Fit t
  pub used : UsedIn t from
  pub word : label < 2 ^ 32
  pub number : solids ≡ solids_in t

-- the edit's needs
pub can_draw : (t : List ℤ) (from label : ℕ) (A : Area) → UsedIn t from → label < 2 ^ 32 → CreateAllows t A label
    → CanLay t from A.left A.bottom A.right A.top (drawn A label).paint
can_draw t from label A u w a =
    record {
      forms = fit_forms t a.fit;
      size = a.fit.size;
      from = u;
      rect = omega (arith, a.rect);
      clear = λ i x y s q k. a.free x y (omega (arith, k)) i s q;
      paint = record { kind = refl; label = a.named };
      word = w;
    }

-- what the edit leaves of a solid
same_solid : (t t' : List ℤ) (i : ℕ) → SameTile t t' i → tile_of t' i ≡ tile_of t i
same_solid t t' i h = tile_ext (tile_of t' i) (tile_of t i) (omega (arith, h.left, h.bottom, h.right, h.top)) h.paint

sound_after : (t t' : List ℤ) → Fit t → length t' ≡ length t → Forms t' → Edited t t'
sound_after t t' f e g = record { sound = forms_sound t' (omega (arith, f.size.most)) g; size = e }

pub draw_done : (t t' : List ℤ) (k label : ℕ) (A : Area) → CreateAllows t A label → Creates t t' k A.left A.bottom A.right A.top (drawn A label).paint
    → CreateDone t A label t' k
draw_done t t' k label A a c =
    record {
      allows = a;
      edited = sound_after t t' a.fit c.adds.size c.forms;
      adds =
          record {
            new = c.solid;
            is = tile_ext (tile_of t' k) (drawn A label) (omega (arith, c.left, c.bottom, c.right, c.top)) c.paint;
            was_none = creates_new t t' k A.left A.bottom A.right A.top (drawn A label).paint c;
            kept = λ i s. let m = c.adds.on i s in (m.solid, same_solid t t' i m.tile);
            only = c.adds.back;
          };
    }

-- a create on a sound table that has as many solids as it takes
pub at_capacity : (t : List ℤ) → Fit t → capacity (records_of t) ≤ solids_in t → solids_in t ≡ capacity (records_of t)
at_capacity t f h = omega (arith, (fit_forms t f).few)

-- one solid more
pub adds_one : (t t' : List ℤ) (k : ℕ) (v : Tile) → length t' ≡ length t → Adds t t' k v → solids_in t' ≡ solids_in t + 1
unfolding count
adds_one t t' k v e a =
    let r : records_of t' ≡ records_of t = omega arith in
    let b : k < records_of t = omega (arith, a.new.below) in
    let new : only (solid_at t' k) 1 ≡ 1 = ap (λ b. only b 1) (eq-eqb (num t' k KIND) SOLID a.new.kind) in
    let old : only (solid_at t k) 1 ≡ 0 = ap (λ b. only b 1) (ne_eqb (num t k KIND) SOLID (λ s. a.was_none (record { below = b; kind = s }))) in
    let s = sum_set (records_of t) (λ i. only (solid_at t' i) 1) (λ i. only (solid_at t i) 1) k b (λ i h n. ap (λ b. only b 1) (same i h n)) in
    ap (λ n. count n (solid_at t')) r ∙ omega arith
  where
    same : (i : ℕ) → i < records_of t → i ≢ k → solid_at t' i ≡ solid_at t i
    same i h n = eq_cases (num t i KIND) SOLID
        (λ s. eq-eqb (num t' i KIND) SOLID (a.kept i (record { below = h; kind = s })).0.kind ∙ sym (eq-eqb (num t i KIND) SOLID s))
        (λ d.
        let below : i < records_of t' = omega arith in
        ne_eqb (num t' i KIND) SOLID (λ s. d (a.only i (record { below = below; kind = s }) n).kind) ∙ sym (ne_eqb (num t i KIND) SOLID d))

-- ---- delete

-- what the act takes away: the solid of record i, whose label it gives
pub record Taken (t : List ℤ) (i : ℕ) (t' : List ℤ) (label : ℕ) : Type 0 where
  pub edited : Edited t t'
  pub removes : Removes t t' i
  pub is : label ≡ label_in t i
  pub low : label < 2 ^ 31

pub can_delete : (t : List ℤ) (i : ℕ) → Fit t → SolidIn t i → CanShrink t i
can_delete t i f s = record { forms = fit_forms t f; size = f.size; solid = s }

-- 12 never holds
pub delete_allows : (t : List ℤ) (x y i : ℕ) → Fit t → Finds t x y i → num t i KIND ≡ SOLID → DeleteAllows t x y i
delete_allows t x y i f h k =
    let s : SolidIn t i = record { below = h.used.below; kind = k } in
    record { fit = f; finds = h; solid = s; room = λ n. let (j, r) = shrink_room t i (can_delete t i f s) in n j r.below r.kind }

-- a used record that is no solid is space
pub is_space : (t : List ℤ) (i : ℕ) → Fit t → UsedIn t i → num t i KIND ≢ SOLID → SpaceIn t i
is_space t i f u n = go ((fit_forms t f).widest.kinded i u)
  where
    go : Kinded (tile_of t i) → SpaceIn t i
    go (Kinded.space p) = record { below = u.below; kind = p.kind }
    go (Kinded.solid p) = absurd (n p.kind)

-- a solid's label is from 1 on
pub label_low : (t : List ℤ) (i : ℕ) → Fit t → SolidIn t i → ZERO < num t i Words.LABEL
label_low t i f s = go ((fit_forms t f).widest.kinded i (record { below = s.below; used = λ e. omega (arith, s.kind) }))
  where
    go : Kinded (tile_of t i) → ZERO < num t i Words.LABEL
    go (Kinded.space p) = absurd (omega (arith, s.kind, p.kind))
    go (Kinded.solid p) = p.label

pub taken : (t t' : List ℤ) (i label : ℕ) → Fit t → Deletes t t' i → label ≡ label_in t i → label < 2 ^ 31 → Taken t i t' label
taken t t' i label f d e w =
    record {
      edited = sound_after t t' f d.size d.forms;
      removes =
          record {
            kept = λ j s n.
                let (m, h) = d.on j s n in
                (m, same_solid t t' j h);
            only = d.back;
          };
      is = e;
      low = w;
    }

pub taken_says : (t : List ℤ) (x y i : ℕ) (t' : List ℤ) (label : ℕ) → DeleteAllows t x y i → Taken t i t' label → DeleteSays t x y t' (accepted label)
taken_says t x y i t' label a k = DeleteSays.done i (record { allows = a; edited = k.edited; removes = k.removes }) (ap accepted k.is)

-- a find's refusal goes out unchanged
pub refused_delete : (t : List ℤ) (x y : ℕ) (f : Result ℕ Refusal) → FindSays t x y (answer_of f) → NotFound f → DeleteRefuses t x y (answer_of f)
refused_delete t x y f (FindSays.unfit u) n = DeleteRefuses.unfit u
refused_delete t x y f (FindSays.point h p e) n = DeleteRefuses.point h p e
refused_delete t x y f (FindSays.done h i k e) n = absurd (n i (found_at f i e))

-- what is read back from the words' bits
pub delete_bits : (t : List ℤ) (x y : ℤ) (t' : List ℤ) (a : Answer) → SFits w32 x → SFits w32 y
    → DeleteSays t (ruler (to_z w32 (of_z w32 x))) (ruler (to_z w32 (of_z w32 y))) t' a → DeleteSays t (ruler x) (ruler y) t' a
delete_bits t x y t' a f g = subst₂ (λ x y. DeleteSays t x y t' a) (ruler_bits x f) (ruler_bits y g)
