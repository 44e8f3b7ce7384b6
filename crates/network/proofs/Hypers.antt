-- How far a hyperbolic rotation can take x + y and x − y.
use Rattle.std.proofs.Common.{◌≡◌, ℕ, zero, suc, ◌+◌, ◌-◌, ◌*◌, ◌/◌, ◌^◌, ◌<◌, ◌≤◌, Bool, true, false, ◌&&◌, T, ltb, leb, List, [], ◌∷◌, ℤ, pos, negsuc, ◌+ℤ◌, ◌-ℤ◌, ◌*ℤ◌, neg_ℤ, nat_abs, ◌≤ℤ◌, ◌<ℤ◌, mul-le-mul_left, arith, ltb→lt, leb→le}
use borrow.Author.Differences.{up, down}
use lib.Signed.{le_z_yes}
use Rattle.std.proofs.lemmas.Int.{ints, by_lt_z}
use Rattle.std.proofs.lemmas.Nat.{pow_pos, div-add-mod', mod_below}
use Rattle.stage.specs.Word.{shifted}
use Rattle.stage.specs.Step.{signed, scaled, turned}
use Rattle.cordic.specs.declared.order.Iteration.{Iteration}
use Rattle.cordic.specs.Tables.{hyperbolic}
use Rattle.cordic.specs.Mode.{directed}
use Rattle.cordic.specs.Unit.{told}
use Rattle.stage.specs.declared.registers.Triple.{Triple}
use Rattle.stage.specs.declared.step.System.TheVariants.{Hyperbolic}
use Rattle.cordic.specs.declared.mode.Mode.{Mode}
use Rattle.cordic.specs.declared.mode.Mode.TheVariants.{Rotation}
use Rattle.stage.specs.declared.step.Direction.{Direction}
use Rattle.stage.specs.declared.step.Direction.TheVariants.{Plus, Minus}
use Rattle.network.proofs.Ring.{mul_plus, mul_neg}
use Rattle.cordic.proofs.Moved.{moved, Always}

both_left : (a b : Bool) → T (a && b) → T a
both_left true b t = tt
both_left false b t = t

both_right : (a b : Bool) → T (a && b) → T b
both_right true b t = t
both_right false b t = absurd t

-- low and high bound both x + y and x − y
pub record In (low high : ℕ) (t : Triple) : Type 0 where
  pub sum_low : pos low ≤ℤ (t.x +ℤ t.y)
  pub sum_high : (t.x +ℤ t.y) ≤ℤ pos high
  pub rest_low : pos low ≤ℤ (t.x -ℤ t.y)
  pub rest_high : (t.x -ℤ t.y) ≤ℤ pos high

abbrev pub lower : ℕ → ℕ → ℕ
lower s l = (2 ^ s * l - l) / 2 ^ s - 2

abbrev pub higher : ℕ → ℕ → ℕ
higher s h = h + h / 2 ^ s + 3

-- one step's bounds hold
abbrev pub calm_step : ℕ → ℕ → ℕ → Bool
calm_step s l h = leb (2 ^ s * (lower s l + 2) + l) (2 ^ s * l) && leb (2 ^ s * h + h + 2 * 2 ^ s) (2 ^ s * higher s h)

-- the bounds along an order: at the end low is at least `least`, and high never reaches `most`
abbrev pub calm : ℕ → ℕ → List Iteration → ℕ → ℕ → Bool
calm least most [] l h = leb least l && ltb h most
calm least most (p ∷ ps) l h = ltb h most && (calm_step p.shift.amount l h && calm least most ps (lower p.shift.amount l) (higher p.shift.amount h))

abbrev pub InWords : Triple → Type 0
InWords t = (nat_abs t.x < 2 ^ 31) × (nat_abs t.y < 2 ^ 31)

abbrev opposite : Direction → Direction
opposite Plus = Minus
opposite Minus = Plus

mono : (n : ℕ) (a b : ℤ) → a ≤ℤ b → (pos n *ℤ a) ≤ℤ (pos n *ℤ b)
mono n a b h = let k : up a + down b ≤ up b + down a = omega (arith, ints) in omega (arith, ints, mul-le-mul_left n k)

cancel : (n : ℕ) (a b : ℤ) → 0 < n → (pos n *ℤ a) ≤ℤ (pos n *ℤ b) → a ≤ℤ b
cancel n a b p h = by_lt_z b a (λ l. absurd (wrong n a b p h l)) (λ k. k)
  where
    wrong : (n : ℕ) (a b : ℤ) → 0 < n → (pos n *ℤ a) ≤ℤ (pos n *ℤ b) → b <ℤ a → ⊥
    wrong n a b p h l = let k : suc (up b + down a) ≤ up a + down b = omega (arith, ints) in omega (arith, ints, mul-le-mul_left n k)

pub floor_low : (s : ℕ) (v : ℤ) → (pos (2 ^ s) *ℤ shifted v s) ≤ℤ v
floor_low s (pos n) = let a = div-add-mod' n (2 ^ s) in omega (arith, ints)
floor_low s (negsuc n) = let a = div-add-mod' n (2 ^ s) in let b = mod_below n (2 ^ s) (pow_pos s) in omega (arith, ints)

pub floor_high : (s : ℕ) (v : ℤ) → v <ℤ (pos (2 ^ s) *ℤ shifted v s +ℤ pos (2 ^ s))
floor_high s (pos n) = let a = div-add-mod' n (2 ^ s) in let b = mod_below n (2 ^ s) (pow_pos s) in omega (arith, ints)
floor_high s (negsuc n) = let a = div-add-mod' n (2 ^ s) in let b = mod_below n (2 ^ s) (pow_pos s) in omega (arith, ints)

-- a is in l..h and c is about a / p, with p = r + 1; then a plus or minus c is in l'..h'
module _ (r l h l' h' : ℕ) (a c : ℤ) (al : pos l ≤ℤ a) (ah : a ≤ℤ pos h)
    (cl : a ≤ℤ (pos (suc r) *ℤ c +ℤ pos (2 * suc r))) (ch : (pos (suc r) *ℤ c) ≤ℤ (a +ℤ pos (suc r)))
    (dl : suc r * (l' + 2) + l ≤ suc r * l) (dh : suc r * h + h + 2 * suc r ≤ suc r * h') where
  changed_low : (d : Direction) → pos l' ≤ℤ (a +ℤ signed d c)
  changed_low Plus = cancel (suc r) (pos l') (a +ℤ c) (omega arith) (let m = mono r (pos l) a al in simp (mul_plus) (omega (arith, ints)))
  changed_low Minus = cancel (suc r) (pos l') (a +ℤ neg_ℤ c) (omega arith) (let m = mono r (pos l) a al in simp (mul_plus, mul_neg) (omega (arith, ints)))

  changed_high : (d : Direction) → (a +ℤ signed d c) ≤ℤ pos h'
  changed_high Plus = cancel (suc r) (a +ℤ c) (pos h') (omega arith) (let m = mono r a (pos h) ah in simp (mul_plus) (omega (arith, ints)))
  changed_high Minus = cancel (suc r) (a +ℤ neg_ℤ c) (pos h') (omega arith) (let m = mono r a (pos h) ah in simp (mul_plus, mul_neg) (omega (arith, ints)))

sum_is' : (d : Direction) (x y u v : ℤ) → (x -ℤ scaled Hyperbolic (signed d v)) +ℤ (y +ℤ signed d u) ≡ (x +ℤ y) +ℤ signed d (u +ℤ v)
sum_is' Plus x y u v = omega (arith, ints)
sum_is' Minus x y u v = omega (arith, ints)

rest_is' : (d : Direction) (x y u v : ℤ) → (x -ℤ scaled Hyperbolic (signed d v)) -ℤ (y +ℤ signed d u) ≡ (x -ℤ y) +ℤ signed (opposite d) (u -ℤ v)
rest_is' Plus x y u v = omega (arith, ints)
rest_is' Minus x y u v = omega (arith, ints)

module _ (r : ℕ) (x y u v : ℤ)
    (xl : (pos (suc r) *ℤ u) ≤ℤ x) (xh : x <ℤ (pos (suc r) *ℤ u +ℤ pos (suc r)))
    (yl : (pos (suc r) *ℤ v) ≤ℤ y) (yh : y <ℤ (pos (suc r) *ℤ v +ℤ pos (suc r))) where
  sum_about_low : (x +ℤ y) ≤ℤ (pos (suc r) *ℤ (u +ℤ v) +ℤ pos (2 * suc r))
  sum_about_low = simp mul_plus (omega (arith, ints))

  sum_about_high : (pos (suc r) *ℤ (u +ℤ v)) ≤ℤ ((x +ℤ y) +ℤ pos (suc r))
  sum_about_high = simp mul_plus (omega (arith, ints))

  rest_about_low : (x -ℤ y) ≤ℤ (pos (suc r) *ℤ (u -ℤ v) +ℤ pos (2 * suc r))
  rest_about_low = simp (mul_plus, mul_neg) (omega (arith, ints))

  rest_about_high : (pos (suc r) *ℤ (u -ℤ v)) ≤ℤ ((x -ℤ y) +ℤ pos (suc r))
  rest_about_high = simp (mul_plus, mul_neg) (omega (arith, ints))

  pub next_in : (d : Direction) (l h l' h' : ℕ) → suc r * (l' + 2) + l ≤ suc r * l → suc r * h + h + 2 * suc r ≤ suc r * h' → (z z' : ℤ)
      → In l h (record { x = x; y = y; z = z }) → In l' h' (record { x = x -ℤ scaled Hyperbolic (signed d v); y = y +ℤ signed d u; z = z' })
  next_in d l h l' h' dl dh z z' i = record {
    sum_low = rw sum_is' (changed_low r l h l' h' (x +ℤ y) (u +ℤ v) i.sum_low i.sum_high sum_about_low sum_about_high dl dh d);
    sum_high = rw sum_is' (changed_high r l h l' h' (x +ℤ y) (u +ℤ v) i.sum_low i.sum_high sum_about_low sum_about_high dl dh d);
    rest_low = rw rest_is' (changed_low r l h l' h' (x -ℤ y) (u -ℤ v) i.rest_low i.rest_high rest_about_low rest_about_high dl dh (opposite d));
    rest_high = rw rest_is' (changed_high r l h l' h' (x -ℤ y) (u -ℤ v) i.rest_low i.rest_high rest_about_low rest_about_high dl dh (opposite d));
  }

next_in_p : (p : ℕ) (x y u v : ℤ) → 0 < p → (pos p *ℤ u) ≤ℤ x → x <ℤ (pos p *ℤ u +ℤ pos p) → (pos p *ℤ v) ≤ℤ y → y <ℤ (pos p *ℤ v +ℤ pos p)
    → (d : Direction) (l h l' h' : ℕ) → p * (l' + 2) + l ≤ p * l → p * h + h + 2 * p ≤ p * h' → (z z' : ℤ)
    → In l h (record { x = x; y = y; z = z }) → In l' h' (record { x = x -ℤ scaled Hyperbolic (signed d v); y = y +ℤ signed d u; z = z' })
next_in_p zero x y u v k xl xh yl yh d l h l' h' dl dh z z' i = absurd (omega arith)
next_in_p (suc r) x y u v k xl xh yl yh d l h l' h' dl dh z z' i = next_in r x y u v xl xh yl yh d l h l' h' dl dh z z' i

words : (l h : ℕ) (t : Triple) → h < 2 ^ 31 → In l h t → InWords t
words l h t k i =
    (abs_half t.x t.y l h (2 ^ 31) k i.sum_low i.sum_high i.rest_low i.rest_high)
  where
    abs_half : (x y : ℤ) (l h m : ℕ) → h < m → pos l ≤ℤ (x +ℤ y) → (x +ℤ y) ≤ℤ pos h → pos l ≤ℤ (x -ℤ y) → (x -ℤ y) ≤ℤ pos h → (nat_abs x < m) × (nat_abs y < m)
    abs_half x y l h m k a b c e = (omega (arith, ints), omega (arith, ints))

-- how the order's bounds go along a rotation in either mode
tame : (k : Mode) (least : ℕ) (ps : List Iteration) (l h : ℕ) (t : Triple) → T (calm least (2 ^ 31) ps l h) → In l h t
    → Always InWords Hyperbolic k ps t × ((l' : ℕ) × (h' : ℕ) × (least ≤ l') × In l' h' (moved Hyperbolic k ps t))
tame k least [] l h t c i = (
  words l h t (ltb→lt h (2 ^ 31) (both_right (leb least l) (ltb h (2 ^ 31)) c)) i,
  (l, h, leb→le least l (both_left (leb least l) (ltb h (2 ^ 31)) c), i),
)
tame k least (p ∷ ps) l h t c i =
    let rest = calm least (2 ^ 31) ps (lower p.shift.amount l) (higher p.shift.amount h) in
    let c1 = both_left (ltb h (2 ^ 31)) (calm_step p.shift.amount l h && rest) c in
    let c2 = both_right (ltb h (2 ^ 31)) (calm_step p.shift.amount l h && rest) c in
    let c3 = both_left (calm_step p.shift.amount l h) rest c2 in
    let c4 = both_right (calm_step p.shift.amount l h) rest c2 in
    let lows = leb (2 ^ p.shift.amount * (lower p.shift.amount l + 2) + l) (2 ^ p.shift.amount * l) in
    let highs = leb (2 ^ p.shift.amount * h + h + 2 * 2 ^ p.shift.amount) (2 ^ p.shift.amount * higher p.shift.amount h) in
    let dl = leb→le (2 ^ p.shift.amount * (lower p.shift.amount l + 2) + l) (2 ^ p.shift.amount * l) (both_left lows highs c3) in
    let dh = leb→le (2 ^ p.shift.amount * h + h + 2 * 2 ^ p.shift.amount) (2 ^ p.shift.amount * higher p.shift.amount h) (both_right lows highs c3) in
    let n = next_in_p (2 ^ p.shift.amount) t.x t.y (shifted t.x p.shift.amount) (shifted t.y p.shift.amount) (pow_pos p.shift.amount)
    (floor_low p.shift.amount t.x) (floor_high p.shift.amount t.x) (floor_low p.shift.amount t.y) (floor_high p.shift.amount t.y)
    (directed k t) l h (lower p.shift.amount l) (higher p.shift.amount h) dl dh t.z (t.z -ℤ signed (directed k t) (pos p.entry)) i in
    let r = tame k least ps (lower p.shift.amount l) (higher p.shift.amount h) (turned (told Hyperbolic k p t) t) c4 n in
    ((words l h t (ltb→lt h (2 ^ 31) c1) i, r.0), r.1)

ended : (least l h : ℕ) (t : Triple) → least ≤ l → In l h t → (pos least ≤ℤ t.x) × (pos (nat_abs t.y + least) ≤ℤ t.x)
ended least l h t k i = both_ends t.x t.y least l k i.sum_low i.rest_low
  where
    both_ends : (x y : ℤ) (least l : ℕ) → least ≤ l → pos l ≤ℤ (x +ℤ y) → pos l ≤ℤ (x -ℤ y) → (pos least ≤ℤ x) × (pos (nat_abs y + least) ≤ℤ x)
    both_ends x y least l k a b = (omega (arith, ints), omega (arith, ints))

hyperbolic_calm : T (calm (2 ^ 24) (2 ^ 31) hyperbolic (2 ^ 28) (2 ^ 28))
unfolding hyperbolic
hyperbolic_calm = tt

abbrev pub unturned : ℤ → Triple
unturned z = record { x = pos (2 ^ 28); y = pos 0; z = z }

-- x and y stay words; at the end x is at least 2^24 and |y| below x by as much
pub tanh_tame : (z : ℤ) → Always InWords Hyperbolic Rotation hyperbolic (unturned z)
    × (pos (2 ^ 24) ≤ℤ (moved Hyperbolic Rotation hyperbolic (unturned z)).x)
    × (pos (nat_abs (moved Hyperbolic Rotation hyperbolic (unturned z)).y + 2 ^ 24) ≤ℤ (moved Hyperbolic Rotation hyperbolic (unturned z)).x)
tanh_tame z =
    let t : Triple = unturned z in
    let i : In (2 ^ 28) (2 ^ 28) t = record { sum_low = le_z_yes tt; sum_high = le_z_yes tt; rest_low = le_z_yes tt; rest_high = le_z_yes tt } in
    let r = tame Rotation (2 ^ 24) hyperbolic (2 ^ 28) (2 ^ 28) t hyperbolic_calm i in
    let e = ended (2 ^ 24) r.1.0 r.1.1 (moved Hyperbolic Rotation hyperbolic t) r.1.2 r.1.3 in
    (r.0, e.0, e.1)
