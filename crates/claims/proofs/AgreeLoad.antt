-- Two answers that load's promise allows agree, but for the records of solids and of space tiles. Assumes nothing.
use Rattle.std.specs.Prelude.{◌≡◌, refl, ◌≢◌, List, ℕ, ◌/◌, ◌%◌, ◌≤◌, ◌<◌, ℤ, pos, length}
use Rattle.std.proofs.Common.{sym, ap, ◌∙◌, subst, arith}
use Rattle.geometry.specs.Cases.{lt_cases, eq_cases}
use Rattle.table.specs.Sound.{SizeRight}
use Rattle.table.specs.Fresh.{fresh_table}
use Rattle.layout.specs.Bytes.{saved_at, SAVED}
use Rattle.ushanderi.specs.Answers.{DONE, SIZE, FILE, answered, accepted, refused, without_cell}
use Rattle.ushanderi.specs.declared.answer.MetAnswer.{MetAnswer}
use Rattle.ushanderi.specs.Promises.{Fit, CreateDone, CreateSays, area_in, Built, LoadStops, LoadSays}
use Rattle.claims.specs.AgreeChecks.{Then, stops, goes, same, join, met_number, number_one, not_done}
use Rattle.claims.specs.AgreeTables.{Alike, alike_self}
use Rattle.claims.proofs.AgreeTables.{alike_renumbered}
use Rattle.claims.specs.AgreeCreate.{refuses_not_done, create_alike}
use Rattle.claims.specs.Terms.{LoadAgrees, Stop}
use Rattle.claims.specs.AgreeLoad.{fresh_fit}

module _ (t : List ℤ) (s : SizeRight t) (bs : List ℕ) where
  -- the same records of a file make the same picture
  built_alike : (m n : ℕ) (u v : List ℤ) → m ≡ n → Built (length t) bs m u → Built (length t) bs n v → Alike u v
  built_alike m n u v e Built.none Built.none = alike_self (fresh_table (length t)) (fresh_fit t s)
  built_alike m n u v e Built.none (Built.more {n = k} b j c) = absurd (omega arith)
  built_alike m n u v e (Built.more {n = k} b j c) Built.none = absurd (omega arith)
  built_alike m n u v e (Built.more {n = k} {u = w} b i c) (Built.more {n = l} {u = z} d j g) =
      let q : l ≡ k = omega arith in
      let h = built_alike k l w z (sym q) b d in
      let g' : CreateDone z (area_in bs k) (saved_at bs k).label v j = subst (λ n. CreateDone z (area_in bs n) (saved_at bs n).label v j) q g in
      (create_alike w z (area_in bs k) (saved_at bs k).label u v (without_cell (accepted i)) (without_cell (accepted j)) h (CreateSays.done i c refl)
      (CreateSays.done j g' refl)).done refl

  pub built_fit : (n : ℕ) (u : List ℤ) → Built (length t) bs n u → Fit u
  built_fit n u b = (built_alike n n u u refl b b).left

  -- the create for record m, among the first n
  record Step (m : ℕ) : Type 0 where
    before : List ℤ
    built : Built (length t) bs m before
    after : List ℤ
    at : ℕ
    done : CreateDone before (area_in bs m) (saved_at bs m).label after at

  step_of : (n : ℕ) (u : List ℤ) → Built (length t) bs n u → (m : ℕ) → m < n → Step m
  step_of n u Built.none m h = absurd (omega arith)
  step_of n u (Built.more {n = k} {u = w} {u' = z} b i c) m h = eq_cases m k
      (λ e. subst Step (sym e) (record { before = w; built = b; after = u; at = i; done = c }))
      (λ d. step_of k w b m (omega arith))

  no_step : (n number : ℕ) → Stop t bs n number → Step n → ⊥
  no_step n number p q =
      let l = built_alike n n p.before q.before refl p.built q.built in
      refuses_not_done p.refuses
      (create_alike p.before q.before (area_in bs n) (saved_at bs n).label p.before q.after p.refusal (without_cell (accepted q.at)) l
      (CreateSays.refuses p.refuses refl) (CreateSays.done q.at q.done refl)).number

  stop_number : (n c d : ℕ) → Stop t bs n c → Stop t bs n d → c ≡ d
  stop_number n c d p q =
      let l = built_alike n n p.before q.before refl p.built q.built in
      let e = (create_alike p.before q.before (area_in bs n) (saved_at bs n).label p.before q.before p.refusal q.refusal l
      (CreateSays.refuses p.refuses refl) (CreateSays.refuses q.refuses refl)).number in
      number_one p.is (e ∙ q.is)

  stop_before : (m n c d : ℕ) → Stop t bs m c → Stop t bs n d → n ≤ m
  stop_before m n c d p q = lt_cases m n (λ h. absurd (no_step m c p (step_of n q.before q.built m h))) (λ h. h)

  stop_one : (m n c d : ℕ) → Stop t bs m c → Stop t bs n d → (m ≡ n) × (c ≡ d)
  stop_one m n c d p q =
      let e : n ≡ m = omega (arith, stop_before m n c d p q, stop_before n m d c q p) in
      (sym e, stop_number m c d p (subst (λ n. Stop t bs n d) e q))

-- ---- two answers to one load
module _ (t : List ℤ) (bs : List ℕ) where
  record Stopped (s : SizeRight t) (t' : List ℤ) (a : MetAnswer) : Type 0 where
    n : ℕ
    number : ℕ
    below : n < length bs / SAVED
    stop : Stop t bs n number
    is : a ≡ without_cell (answered number n)
    fresh : t' ≡ fresh_table (length t)

  data Ended (s : SizeRight t) (t' : List ℤ) (a : MetAnswer) : Type 0 where
    stopped : Stopped s t' a → Ended s t' a
    done : Built (length t) bs (length bs / SAVED) t' → a ≡ without_cell (accepted (length bs / SAVED)) → Ended s t' a

  abbrev Checked : List ℤ → MetAnswer → Type 0
  Checked t' a =
      Then (SizeRight t → ⊥) ((a ≡ without_cell (refused SIZE)) × (t' ≡ t))
      (SizeRight t × Then (length bs % SAVED ≢ 0) ((a ≡ without_cell (refused FILE)) × (t' ≡ t)) ((s : SizeRight t) → Ended s t' a))

  load_order : (t' : List ℤ) (a : MetAnswer) → LoadSays t bs t' a → Checked t' a
  load_order t' a (LoadSays.size n e w) = stops n (e, w)
  load_order t' a (LoadSays.file s n e w) = goes (λ m. m s) (s, stops n (e, w))
  load_order t' a (LoadSays.stopped (LoadStops.stops s z n c u o h b k d e) w) =
      goes (λ m. m s) (
        s,
        goes (λ m. m z) (λ r. stopped (record {
          n = n;
          number = c;
          below = h;
          stop = record { before = u; built = b; refusal = o; refuses = k; is = d };
          is = e;
          fresh = w;
        })),
      )
  load_order t' a (LoadSays.done s z b e) = goes (λ m. m s) (s, goes (λ m. m z) (λ r. done b e))

  module _ (u v : List ℤ) (a b : MetAnswer) where
    refused_same : (n i : ℕ) (w : List ℤ) → n ≢ DONE → (a ≡ without_cell (answered n i)) × (u ≡ w) → (b ≡ without_cell (answered n i)) × (v ≡ w)
        → LoadAgrees u v a b
    refused_same n i w d p q = record { answer = join p.0 q.0; refused = λ h. join p.1 q.1; done = λ h. absurd (not_done (met_number p.0) d h) }

    ended_same : (s : SizeRight t) → Ended s u a → Ended s v b → LoadAgrees u v a b
    ended_same s (stopped p) (stopped q) =
        let (e, d) = stop_one t s bs q.n p.n q.number p.number q.stop p.stop in
        refused_same p.number p.n (fresh_table (length t)) (λ e. refuses_not_done p.stop.refuses (p.stop.is ∙ ap pos e)) (p.is, p.fresh)
        (subst (λ n. b ≡ without_cell (answered p.number n)) e (subst (λ c. b ≡ without_cell (answered c q.n)) d q.is), q.fresh)
    ended_same s (stopped p) (done c e) = absurd (no_step t s bs p.n p.number p.stop (step_of t s bs (length bs / SAVED) v c p.n p.below))
    ended_same s (done c e) (stopped q) = absurd (no_step t s bs q.n q.number q.stop (step_of t s bs (length bs / SAVED) u c q.n q.below))
    ended_same s (done c e) (done d g) =
        let l = built_alike t s bs (length bs / SAVED) (length bs / SAVED) u v refl c d in
        record {
          answer = join e g;
          refused = λ h. absurd (h (met_number e));
          done = λ h. alike_renumbered u v l;
        }

    pub load_agrees : LoadSays t bs u a → LoadSays t bs v b → LoadAgrees u v a b
    load_agrees p q =
        same (refused_same SIZE 0 t (λ e. omega arith))
        (λ r s. same (refused_same FILE 0 t (λ e. omega arith)) (λ h k. ended_same r.0 (h r.0) (k r.0)) r.1 s.1)
        (load_order u a p) (load_order v b q)
