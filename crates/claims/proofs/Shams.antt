-- Sham programs that the promises shut out: what each of them would answer, or leave in the table, is allowed by no promise. Assumes nothing.
use Rattle.std.specs.Prelude.{◌≡◌, refl, List, ◌∷◌, ℕ, ◌*◌, ◌/◌, ◌%◌, ◌<◌, ℤ, pos, length}
use Rattle.std.proofs.Common.{sym, ap, ◌∙◌, subst, arith}
use mathlib.Core.List.Memᴰ
use Rattle.geometry.specs.Picture.{Tile}
use Rattle.table.specs.Words.{WIDTH, records_of}
use Rattle.table.specs.Sound.{SizeRight, capacity, solids_in}
use Rattle.table.specs.Fresh.{fresh_table}
use Rattle.table.specs.FreshSound.{fresh_length}
use Rattle.layout.specs.Bytes.{SAVED}
use Rattle.ushanderi.specs.Answers.{DONE, accepted}
use Rattle.ushanderi.specs.declared.answer.Answer.{Answer}
use Rattle.ushanderi.specs.declared.answer.MetAnswer.{MetAnswer}
use Rattle.ushanderi.specs.Promises.{FreshSays, CheckSays, LoadSays}
use Rattle.claims.specs.AgreeChecks.{met_number}
use Rattle.claims.specs.AgreeReads.{fresh_agrees, check_agrees}
use Rattle.claims.specs.History.{Among, Distinct, filed_at, filed, Begins, History}
use Rattle.claims.specs.HistoryAccount.{filed_among}
use Rattle.claims.specs.Allowed.{deletes, saves}
use Rattle.claims.proofs.CleanFile.{clean_loads}
use Rattle.claims.proofs.HistoryKept.{history_kept}
use Rattle.claims.specs.Terms.{Shows, Clean}
use Rattle.claims.specs.Drawing.{Draws}
use Rattle.claims.specs.Shams.{NoRefusal, accepts, fresh_shows, load_writes, no_refused_create, no_refused_density, no_refused_enumerate, no_refused_find, no_refused_fresh, no_refused_neighbours, no_refused_search}

pub no_refusal : NoRefusal
no_refusal = record {
  fresh = no_refused_fresh;
  check = λ t a f s r. accepts a (solids_in t) (check_agrees t a (accepted (solids_in t)) s (CheckSays.done f refl)) r;
  find = no_refused_find;
  neighbours = no_refused_neighbours;
  search = no_refused_search;
  enumerate = no_refused_enumerate;
  density = no_refused_density;
  create = no_refused_create;
  delete = λ t x y i t' a f h o s r. accepts a _ (deletes t f x y i h t' a o s).0 r;
  save = λ t out out' a f l s r. accepts a (SAVED * solids_in t) (saves t f out out' a l s).is r;
  load = λ t t' bs a z c s r. r (met_number (clean_loads t z bs c t' a s).0);
}

-- load that ends well, where the file has a solid that the table has not
pub load_draws : (t t' : List ℤ) (bs : List ℕ) (v : Tile) (a : MetAnswer) → LoadSays t bs t' a → a.number ≡ pos DONE
    → Among (filed bs (length bs / SAVED)) v → (Shows t v → ⊥) → t' ≡ t → ⊥
load_draws t t' bs v a s e i n q = n (subst (λ t. Shows t v) q (((history_kept (History.start (Begins.load s e))).solids v).0 i))

-- fresh and then a load that no check refuses, of one record or more
pub second_load_writes : (t t₀ t₁ : List ℤ) (bs : List ℕ) (a₀ : Answer) (a₁ : MetAnswer) → SizeRight t → FreshSays t t₀ a₀ → Clean bs (capacity (records_of t))
    → 0 < length bs / SAVED → LoadSays t₀ bs t₁ a₁ → t₁ ≡ t₀ → ⊥
second_load_writes t t₀ t₁ bs a₀ a₁ z f c h s w =
    let e = (fresh_agrees t t₀ (fresh_table (length t)) a₀ (accepted 0) f (FreshSays.done z refl refl)).1 in
    let l : length t₀ ≡ length t = ap length e ∙ fresh_length (length t) (omega (arith, z.least)) in
    let y : SizeRight t₀ = omega (arith, z) in
    let d = (clean_loads t₀ y bs (subst (λ n. Clean bs (capacity (n / WIDTH))) (sym l) c) t₁ a₁ s).0 in
    load_draws t₀ t₁ bs (filed_at bs 0) a₁ s (met_number d) (filed_among bs (length bs / SAVED) 0 h)
    (λ o. fresh_shows t z (filed_at bs 0) (subst (λ t. Shows t (filed_at bs 0)) e o)) w

-- a load that ends well and then another, of whole records, whose file lacks one of the solids
pub load_after_load_writes : (t t₁ t₂ : List ℤ) (bs cs : List ℕ) (v : Tile) (a₁ a₂ : MetAnswer) → LoadSays t bs t₁ a₁ → a₁.number ≡ pos DONE
    → Among (filed bs (length bs / SAVED)) v → length cs % SAVED ≡ 0 → (Among (filed cs (length cs / SAVED)) v → ⊥) → LoadSays t₁ cs t₂ a₂ → t₂ ≡ t₁ → ⊥
load_after_load_writes t t₁ t₂ bs cs v a₁ a₂ s₁ e i d m s₂ w =
    let k = history_kept (History.start (Begins.load s₁ e)) in
    load_writes t₁ t₂ cs v a₂ k.size d ((k.solids v).0 i) m s₂ w

-- over any history: a table that still draws the earlier account is not the table after one accepted create more
pub later_writes : (t : List ℤ) (v : Tile) (S : List Tile) → History t (v ∷ S) → Draws t S → ⊥
later_writes t v S h d = fresh_one (history_kept h).once (subst (Among S) s.is (d.each s.at s.solid))
  where
    s : Shows t v
    s = ((history_kept h).solids v).0 (Memᴰ.head refl)

    fresh_one : Distinct (v ∷ S) → Among S v → ⊥
    fresh_one (Distinct.more n o) m = n m
