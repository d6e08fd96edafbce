-- Steps that the theorems of agreement share: checks that run in an order exclude each other, and what a fit table gives. Assumes nothing.
use Rattle.std.specs.Prelude.{◌≡◌, ◌≢◌, List, ℕ, ℤ, pos}
use Rattle.std.proofs.Common.{sym, ap, ◌∙◌, arith}
use Rattle.geometry.specs.Picture.{InPlane}
use Rattle.table.specs.Sound.{UsedIn, SolidIn}
use Rattle.table.specs.Forms.{Forms, used_is}
use Rattle.table.proofs.Forms.{sound_forms}
use Rattle.seek.specs.Meaning.{Area, First}
use Rattle.seek.specs.Find.{Finds, finds_one}
use Rattle.seek.specs.Search.{first_one}
use Rattle.ushanderi.specs.Answers.{DONE, answered, with_cell, without_cell}
use Rattle.ushanderi.specs.declared.answer.Answer.{Answer}
use Rattle.ushanderi.specs.declared.answer.MetAnswer.{MetAnswer}
use Rattle.ushanderi.specs.Promises.{Unfit, Fit}
use Rattle.claims.specs.Terms.{OneCell}

-- One check of an order: it stops the call where P holds, with R; where P does not hold the call goes on, with Q.
pub data Then (P R Q : Type 0) : Type 0 where
  stops : P → R → Then P R Q
  goes : (P → ⊥) → Q → Then P R Q

-- two calls that the same check stops or lets go on
pub both : {P P' R R' Q Q' C : Type 0} → (P → P') → (P' → P) → (R → R' → C) → (Q → Q' → C) → Then P R Q → Then P' R' Q' → C
both to from f g (stops p r) (stops p' r') = f r r'
both to from f g (stops p r) (goes n q) = absurd (n (to p))
both to from f g (goes n q) (stops p r) = absurd (n (from p))
both to from f g (goes n q) (goes n' q') = g q q'

pub same : {P R R' Q Q' C : Type 0} → (R → R' → C) → (Q → Q' → C) → Then P R Q → Then P R' Q' → C
same f g h k = both (λ p. p) (λ p. p) f g h k

-- two that are equal to one
pub join : {A : Type 0} {a b c : A} → a ≡ c → b ≡ c → a ≡ b
join p q = p ∙ sym q

-- ---- the checks 1 and 2

abbrev pub NotFit : List ℤ → Type 0
NotFit t = Fit t → ⊥

pub not_fit : (t : List ℤ) (a : Answer) → Unfit t a → NotFit t
not_fit t a (Unfit.size n e) f = n f.size
not_fit t a (Unfit.unsound s n e) f = n f.sound

pub unfit_agrees : (t : List ℤ) (a b : Answer) → Unfit t a → Unfit t b → a ≡ b
unfit_agrees t a b (Unfit.size n e) (Unfit.size m d) = join e d
unfit_agrees t a b (Unfit.size n e) (Unfit.unsound s m d) = absurd (n s)
unfit_agrees t a b (Unfit.unsound s n e) (Unfit.size m d) = absurd (m s)
unfit_agrees t a b (Unfit.unsound s n e) (Unfit.unsound r m d) = join e d

-- the same where the answer could name a cell
pub record UnfitMet (t : List ℤ) (a : MetAnswer) : Type 0 where
  pub with : Answer
  pub unfit : Unfit t with
  pub is : a ≡ without_cell with

pub unfit_met_agrees : (t : List ℤ) (a b : MetAnswer) → UnfitMet t a → UnfitMet t b → a ≡ b
unfit_met_agrees t a b p q = p.is ∙ ap without_cell (unfit_agrees t p.with q.with p.unfit q.unfit) ∙ sym q.is

-- ---- what a fit table gives

pub fit_forms : (t : List ℤ) → Fit t → Forms t
fit_forms t f = sound_forms t f.size.most f.sound

-- one solid holds an area's first occupied cell, and it is one cell
pub met_one : (t : List ℤ) → Fit t → (A : Area) (n x y i x' y' j : ℕ) → First t A x y i → First t A x' y' j
    → with_cell (answered n i) x y ≡ with_cell (answered n j) x' y'
met_one t f A n x y i x' y' j p q =
    let s = first_one t (fit_forms t f) A x y i x' y' j p q in
    λ k. with_cell (answered n (s.number k)) (s.column k) (s.row k)

pub fit_finds_one : (t : List ℤ) → Fit t → (x y i j : ℕ) → Finds t x y i → Finds t x y j → i ≡ j
fit_finds_one t f x y i j h k = finds_one t (fit_forms t f) x y i j h k

-- a cell that a tile holds lies in the plane
pub finds_inside : (t : List ℤ) → Fit t → (x y i : ℕ) → Finds t x y i → InPlane x y
finds_inside t f x y i h =
    let w = (fit_forms t f).good.formed i (used_is t i h.used) in
    omega (arith, h.has)

pub solid_used : (t : List ℤ) (i : ℕ) → SolidIn t i → UsedIn t i
solid_used t i s = record { below = s.below; used = λ e. omega (arith, s.kind) }

-- ---- numbers of answers

pub number_is : {a : Answer} {n value : ℕ} → a ≡ answered n value → a.number ≡ pos n
number_is e = ap (λ a. a.number) e

-- the same where the answer has a cell
pub met_number : {a : MetAnswer} {n : ℕ} {value x y : ℤ} → a ≡ record { number = pos n; value = value; x = x; y = y } → a.number ≡ pos n
met_number e = ap (λ a. a.number) e

-- answers with the same two fields name one cell
pub one_cell : {a b : MetAnswer} {m n v w x y : ℤ} → a ≡ record { number = m; value = v; x = x; y = y } → b ≡ record { number = n; value = w; x = x; y = y }
    → OneCell a b
one_cell e d = (ap (λ a. a.x) e ∙ sym (ap (λ a. a.x) d), ap (λ a. a.y) e ∙ sym (ap (λ a. a.y) d))

pub number_one : {z : ℤ} {m n : ℕ} → z ≡ pos m → z ≡ pos n → m ≡ n
number_one {m = m} {n = n} e h =
    let q : pos m ≡ pos n = sym e ∙ h in
    cc

pub not_done : {z : ℤ} {n : ℕ} → z ≡ pos n → n ≢ DONE → z ≡ pos DONE → ⊥
not_done e d h = d (number_one e h)

pub unfit_not_done : (t : List ℤ) (a : Answer) → Unfit t a → a.number ≡ pos DONE → ⊥
unfit_not_done t a (Unfit.size n e) h = not_done (number_is e) (λ e. omega arith) h
unfit_not_done t a (Unfit.unsound s n e) h = not_done (number_is e) (λ e. omega arith) h
