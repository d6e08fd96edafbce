-- Every free cell is in a space strip: the run through it is found by going left and right to the next cell that is not free, and the strip by going
-- up and down to the next row without that run. Assumes nothing.
use Rattle.std.specs.Prelude.{◌≡◌, ℕ, zero, suc, ◌+◌, ◌-◌, ◌≤◌, ◌<◌, T}
use Rattle.std.proofs.Common.{sym, subst, arith, T_not}
use Rattle.geometry.specs.Cases.{lt_cases, eq_cases, below_suc, T_cases}
use Rattle.geometry.specs.Picture.{LOW, HIGH, InPlane, Tile, Has, Solids, In, Free, Run, Strip}
use Rattle.geometry.specs.Runs.{SameSpan, run_one, run_span, Within}

-- ---- a cell is free or not

has_cases : {C : Type 0} (v : Tile) (x y : ℕ) → (Has v x y → C) → ((Has v x y → ⊥) → C) → C
has_cases v x y f g =
    lt_cases x v.left (λ h. g (λ a. omega arith))
    (λ h. lt_cases x v.right
    (λ i. lt_cases y v.bottom (λ j. g (λ a. omega arith))
    (λ j. lt_cases y v.top (λ k. f (omega arith)) (λ k. g (λ a. omega arith))))
    (λ i. g (λ a. omega arith)))

-- by search through the solids below n
held_below : {C : Type 0} (S : Solids) (x y n : ℕ) → n ≤ S.size → ((k : ℕ) → In S k → Has (S.at k) x y → C)
    → (((k : ℕ) → k < n → In S k → Has (S.at k) x y → ⊥) → C) → C
held_below S x y zero h f g = g (λ k i u a. omega arith)
held_below S x y (suc n) h f g =
    held_below S x y n (omega arith) f
    (λ none. T_cases (S.is n)
    (λ t. has_cases (S.at n) x y
    (λ a. f n (record { below = omega arith; is = t }) a)
    (λ miss. g (λ k i u a. below_suc k n i (λ j. none k j u a) (λ e. miss (subst (λ k. Has (S.at k) x y) e a)))))
    (λ t. g (λ k i u a. below_suc k n i (λ j. none k j u a) (λ e. T_not (S.is n) t (subst (λ k. T (S.is k)) e u.is)))))

pub held_cases : {C : Type 0} (S : Solids) (x y : ℕ) → ((k : ℕ) → In S k → Has (S.at k) x y → C) → (Free S x y → C) → C
held_cases S x y f g = held_below S x y S.size (omega arith) f (λ none. g (λ k u. none k u.below u))

-- ---- the run through a free cell

record LeftEnd (S : Solids) (x y : ℕ) : Type 0 where
  end : ℕ
  from : LOW ≤ end
  to : end ≤ x
  free : (z : ℕ) → end ≤ z → z ≤ x → Free S z y
  no_longer : LOW < end → Free S (end - 1) y → ⊥

record RightEnd (S : Solids) (x y : ℕ) : Type 0 where
  end : ℕ
  from : x < end
  to : end ≤ HIGH
  free : (z : ℕ) → x ≤ z → z < end → Free S z y
  no_longer : end < HIGH → Free S end y → ⊥

-- one cell alone
free_at_lem : (S : Solids) (x y z : ℕ) → z ≡ x → Free S x y → Free S z y
free_at_lem S x y z e f = subst (λ x. Free S x y) (sym e) f

left_here : (S : Solids) (x y : ℕ) → LOW ≤ x → Free S x y → (LOW < x → Free S (x - 1) y → ⊥) → LeftEnd S x y
left_here S x y h f stop = record { end = x; from = h; to = omega arith; free = λ z a b. free_at_lem S x y z (omega arith) f; no_longer = stop }

left_on : (S : Solids) (x y : ℕ) → LOW < x → Free S x y → LeftEnd S (x - 1) y → LeftEnd S x y
left_on S x y h f e = record {
  end = e.end;
  from = e.from;
  to = omega (arith, e.to);
  free = λ z a b. lt_cases z x (λ k. e.free z a (omega arith)) (λ k. free_at_lem S x y z (omega arith) f);
  no_longer = e.no_longer;
}

left_end : (S : Solids) (n x y : ℕ) → x ≤ LOW + n → LOW ≤ x → Free S x y → LeftEnd S x y
left_end S zero x y d h f = left_here S x y h f (λ k. absurd (omega arith))
left_end S (suc n) x y d h f =
    lt_cases LOW x
    (λ k. held_cases S (x - 1) y
    (λ j u a. left_here S x y h f (λ k free. free j u a))
    (λ g. left_on S x y k f (left_end S n (x - 1) y (omega arith) (omega arith) g)))
    (λ k. left_here S x y h f (λ k'. absurd (omega arith)))

right_here : (S : Solids) (x y : ℕ) → x < HIGH → Free S x y → (suc x < HIGH → Free S (suc x) y → ⊥) → RightEnd S x y
right_here S x y h f stop = record { end = suc x; from = omega arith; to = omega arith; free = λ z a b. free_at_lem S x y z (omega arith) f; no_longer = stop }

right_on : (S : Solids) (x y : ℕ) → Free S x y → RightEnd S (suc x) y → RightEnd S x y
right_on S x y f e = record {
  end = e.end;
  from = omega (arith, e.from);
  to = e.to;
  free = λ z a b. lt_cases x z (λ k. e.free z (omega arith) b) (λ k. free_at_lem S x y z (omega arith) f);
  no_longer = e.no_longer;
}

right_end : (S : Solids) (n x y : ℕ) → HIGH ≤ suc x + n → x < HIGH → Free S x y → RightEnd S x y
right_end S zero x y d h f = right_here S x y h f (λ k. absurd (omega arith))
right_end S (suc n) x y d h f =
    lt_cases (suc x) HIGH
    (λ k. held_cases S (suc x) y
    (λ j u a. right_here S x y h f (λ k free. free j u a))
    (λ g. right_on S x y f (right_end S n (suc x) y (omega arith) (omega arith) g)))
    (λ k. right_here S x y h f (λ k'. absurd (omega arith)))

pub record RunAt (S : Solids) (x y : ℕ) : Type 0 where
  pub left : ℕ
  pub right : ℕ
  pub from : left ≤ x
  pub to : x < right
  pub run : Run S y left right

pub run_at : (S : Solids) (x y : ℕ) → InPlane x y → Free S x y → RunAt S x y
run_at S x y p f =
    let a = left_end S x x y (omega arith) p.x_low f in
    let b = right_end S HIGH x y (omega arith) p.x_high f in
    record {
      left = a.end;
      right = b.end;
      from = a.to;
      to = b.from;
      run = record {
        y_low = p.y_low;
        y_high = p.y_high;
        from = a.from;
        some = omega (arith, a.to, b.from);
        to = b.to;
        free = λ z h k. lt_cases z x (λ i. a.free z h (omega arith)) (λ i. b.free z i k);
        no_longer_left = a.no_longer;
        no_longer_right = b.no_longer;
      };
    }

run_cases : {C : Type 0} (S : Solids) (y l r : ℕ) → InPlane l y → l < r → (Run S y l r → C) → ((Run S y l r → ⊥) → C) → C
run_cases S y l r p h f g =
    held_cases S l y
    (λ k u a. g (λ q. q.free l (omega arith) h k u a))
    (λ free.
    let w = run_at S l y p free in
    let only : Run S y l r → SameSpan w.left w.right l r = λ q.
    run_one S l y w.left w.right l r w.run q w.from w.to (omega arith) h in
    eq_cases w.left l
    (λ e. eq_cases w.right r
    (λ d. f (run_span S y w.left w.right l r (record { left = e; right = d }) w.run))
    (λ d. g (λ q. d (only q).right)))
    (λ e. g (λ q. e (only q).left)))

-- ---- the strip through a free cell

record Upper (S : Solids) (y l r : ℕ) : Type 0 where
  end : ℕ
  some : y < end
  rows : (z : ℕ) → y ≤ z → z < end → Run S z l r
  no_higher : Run S end l r → ⊥

record Lower (S : Solids) (y l r : ℕ) : Type 0 where
  end : ℕ
  some : end ≤ y
  rows : (z : ℕ) → end ≤ z → z ≤ y → Run S z l r
  no_lower : Run S (end - 1) l r → ⊥

run_row : (S : Solids) (y z l r : ℕ) → z ≡ y → Run S y l r → Run S z l r
run_row S y z l r e p = subst (λ y. Run S y l r) (sym e) p

upper : (S : Solids) (n y l r : ℕ) → HIGH ≤ y + n → Run S y l r → Upper S y l r
upper S zero y l r d p = absurd (omega arith)
upper S (suc n) y l r d p =
    let here : (Run S (suc y) l r → ⊥) → Upper S y l r = λ stop.
    record { end = suc y; some = omega arith; rows = λ z a b. run_row S y z l r (omega arith) p; no_higher = stop } in
    lt_cases (suc y) HIGH
    (λ h. run_cases S (suc y) l r (omega arith) p.some
    (λ q.
    let u = upper S n (suc y) l r (omega arith) q in
    record {
      end = u.end;
      some = omega (arith, u.some);
      rows = λ z a b. lt_cases y z (λ k. u.rows z (omega arith) b) (λ k. run_row S y z l r (omega arith) p);
      no_higher = u.no_higher;
    })
    here)
    (λ h. here (λ q. omega (arith, q.y_high)))

lower : (S : Solids) (n y l r : ℕ) → y < LOW + n → Run S y l r → Lower S y l r
lower S zero y l r d p = absurd (omega arith)
lower S (suc n) y l r d p =
    let here : (Run S (y - 1) l r → ⊥) → Lower S y l r = λ stop.
    record { end = y; some = omega arith; rows = λ z a b. run_row S y z l r (omega arith) p; no_lower = stop } in
    lt_cases LOW y
    (λ h. run_cases S (y - 1) l r (omega arith) p.some
    (λ q.
    let u = lower S n (y - 1) l r (omega arith) q in
    record {
      end = u.end;
      some = omega (arith, u.some);
      rows = λ z a b. lt_cases z y (λ k. u.rows z a (omega arith)) (λ k. run_row S y z l r (omega arith) p);
      no_lower = u.no_lower;
    })
    here)
    (λ h. here (λ q. omega (arith, q.y_low)))

pub record StripAt (S : Solids) (x y : ℕ) : Type 0 where
  pub left : ℕ
  pub bottom : ℕ
  pub right : ℕ
  pub top : ℕ
  pub within : Within left bottom right top x y
  pub strip : Strip S left bottom right top

pub strip_at : (S : Solids) (x y : ℕ) → InPlane x y → Free S x y → StripAt S x y
strip_at S x y p f =
    let w = run_at S x y p f in
    let a = upper S HIGH y w.left w.right (omega arith) w.run in
    let b = lower S (suc y) y w.left w.right (omega arith) w.run in
    record {
      left = w.left;
      bottom = b.end;
      right = w.right;
      top = a.end;
      within = record { left = w.from; right = w.to; bottom = b.some; top = a.some };
      strip = record {
        some = omega (arith, a.some, b.some);
        rows = λ z h k. lt_cases z y (λ i. b.rows z h (omega arith)) (λ i. a.rows z i k);
        no_lower = b.no_lower;
        no_higher = a.no_higher;
      };
    }
