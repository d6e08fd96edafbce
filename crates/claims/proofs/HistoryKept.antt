-- Over all histories: the table is sound, its solids are exactly those accepted and not deleted, and what follows from that. Assumes nothing.
use Rattle.std.specs.Prelude.{refl, List, [], ◌/◌, ℤ, length}
use Rattle.std.proofs.Common.{sym, subst}
use Rattle.geometry.specs.Picture.{Tile}
use Rattle.layout.specs.Bytes.{SAVED}
use Rattle.claims.specs.AgreePicture.{space_agrees}
use Rattle.claims.specs.History.{Begins, Step, History, Kept}
use Rattle.claims.specs.HistoryCalls.{fresh_done, fresh_left, load_done, load_fresh}
use Rattle.claims.proofs.HistoryCalls.{load_left}
use Rattle.claims.specs.Terms.{SameTiles}
use Rattle.claims.specs.HistoryKept.{Shown, built_shown, create_shown, delete_shown, fresh_shown, same_shown, shown_kept}

-- ---- every history
begins_shown : (t t' : List ℤ) (S : List Tile) → Begins t t' S → Shown t' S
begins_shown t t' S (Begins.fresh {a = a} c h) = let (s, w) = fresh_done t t' a c h in subst (λ t. Shown t []) (sym w) (fresh_shown t s)
begins_shown t t' S (Begins.load {bs = bs} {a = a} c h) =
    let (s, b) = load_done t bs t' a c h in
    built_shown t s bs (length bs / SAVED) (length bs / SAVED) t' refl b
begins_shown t t' S (Begins.load_refused {bs = bs} {a = a} c h) =
    let (s, w) = load_fresh t bs t' a c h in
    subst (λ t. Shown t []) (sym w) (fresh_shown t s)

step_shown : (t t' : List ℤ) (S S' : List Tile) → Shown t S → Step t S t' S' → Shown t' S'
step_shown t t' S S' k (Step.begins b) = begins_shown t t' S' b
step_shown t t' S S' k (Step.fresh_refused {a = a} c h) = same_shown t t' S k (fresh_left t t' a c h)
step_shown t t' S S' k (Step.load_unread {bs = bs} {a = a} c h) = same_shown t t' S k (load_left t bs t' a c h)
step_shown t t' S S' k (Step.create {A = A} {label = l} {k = i} w d) = create_shown t S k A l w t' i d
step_shown t t' S S' k (Step.create_refused r) = k
step_shown t t' S S' k (Step.delete {x = x} {y = y} {i = i} d) = delete_shown t S k x y t' i d
step_shown t t' S S' k (Step.delete_refused r) = k
step_shown t t' S S' k (Step.check c) = k
step_shown t t' S S' k (Step.view e c) = k
step_shown t t' S S' k (Step.find c) = k
step_shown t t' S S' k (Step.neighbours c) = k
step_shown t t' S S' k (Step.search c) = k
step_shown t t' S S' k (Step.enumerate c) = k
step_shown t t' S S' k (Step.density c) = k
step_shown t t' S S' k (Step.save c) = k

history_shown : (t : List ℤ) (S : List Tile) → History t S → Shown t S
history_shown t S (History.start {t = u} b) = begins_shown u t S b
history_shown t S (History.step {t = u} {S = R} h s) = step_shown u t R S (history_shown u R h) s

pub history_kept : {t : List ℤ} {S : List Tile} → History t S → Kept t S
history_kept {t} {S} h = shown_kept t S (history_shown t S h)

-- two tables with one account have the same tiles, space and solid
pub history_agrees : {t u : List ℤ} {S : List Tile} → History t S → History u S → SameTiles t u
history_agrees {t} {u} {S} h g =
    let k = history_shown t S h in
    let l = history_shown u S g in
    space_agrees t u k.fit l.fit (λ v. (λ s. (l.solids v).0 ((k.solids v).1 s), λ s. (k.solids v).0 ((l.solids v).1 s)))
