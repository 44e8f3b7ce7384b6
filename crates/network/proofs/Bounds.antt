-- What a linear rotation leaves and sums, and what a linear vectoring divides.
use Rattle.std.proofs.Common.{ℕ, ◌+◌, ◌*◌, ◌/◌, ◌^◌, ◌<◌, ◌≤◌, ℤ, pos, ◌+ℤ◌, ◌-ℤ◌, ◌*ℤ◌, nat_abs, ◌≤ℤ◌, refl, mul-le-mul_left, div-one, arith, lit<}
use Rattle.std.proofs.lemmas.Int.{ints}
use Rattle.cordic.specs.Tables.{linear}
use Rattle.stage.specs.declared.registers.Triple.{Triple}
use Rattle.stage.specs.declared.step.System.TheVariants.{Linear}
use Rattle.cordic.specs.declared.mode.Mode.TheVariants.{Rotation, Vectoring}
use Rattle.network.proofs.Ring.{ring, times_abs, abs_times}
use Rattle.cordic.proofs.Spent.{sum}
use Rattle.cordic.proofs.Ends.{rotation_spends, vectoring_spends, falls, linear_rising, linear_length}
use Rattle.network.proofs.Systems.{linear_covered, linear_exact, linear_total}
use Rattle.network.proofs.Drift.{drift}
use Rattle.cordic.proofs.Moved.{moved, parts_of}

pub product_spent : (t : Triple) → nat_abs t.z ≤ 2 ^ 28 → nat_abs (moved Linear Rotation linear t).z ≤ 1
product_spent t h = rotation_spends Linear linear linear_covered t (rw linear_total h)

close : (n x y z y' z' : ℤ) (b c : ℕ) → nat_abs (n *ℤ y' +ℤ x *ℤ z' -ℤ (n *ℤ y +ℤ x *ℤ z)) + c ≤ b → 0 < c → nat_abs (x *ℤ z') ≤ nat_abs x
    → nat_abs (n *ℤ (y' -ℤ y) -ℤ x *ℤ z) < b + nat_abs x
close n x y z y' z' b c h k l = simp ring (omega (arith, ints))

pub product : (t : Triple) → nat_abs t.z ≤ 2 ^ 28
    → nat_abs (pos (2 ^ 28) *ℤ ((moved Linear Rotation linear t).y -ℤ t.y) -ℤ t.x *ℤ t.z) < 28 * 2 ^ 28 + nat_abs t.x
product t h =
    let d = rw linear_length at (drift Rotation linear (2 ^ 28) (lit< tt) linear_exact t) in
    let e = product_spent t h in
    close (pos (2 ^ 28)) t.x t.y t.z (moved Linear Rotation linear t).y (moved Linear Rotation linear t).z (28 * 2 ^ 28) 28 d (lit< tt) (times_abs t.x (moved Linear Rotation linear t).z e)

close' : (n : ℕ) (x y y' z' : ℤ) (b c : ℕ) → nat_abs (pos n *ℤ y' +ℤ x *ℤ z' -ℤ (pos n *ℤ y +ℤ x *ℤ pos 0)) + 28 ≤ 28 * n → nat_abs (pos n *ℤ y') ≤ n * (c + 27)
    → nat_abs (pos n *ℤ y -ℤ z' *ℤ x) < (55 + c) * n
close' n x y y' z' b c h l = omega (arith, ints)

pub quotient : (a : ℕ) (y : ℤ) → nat_abs y ≤ sum (parts_of a linear) + a / 2 ^ 28 + 27
    → nat_abs (pos (2 ^ 28) *ℤ y -ℤ (moved Linear Vectoring linear (record { x = pos a; y = y; z = pos 0 })).z *ℤ pos a) < (55 + a / 2 ^ 28) * 2 ^ 28
quotient a y h =
    let t : Triple = record { x = pos a; y = y; z = pos 0 } in
    let d = rw linear_length at (drift Vectoring linear (2 ^ 28) (lit< tt) linear_exact t) in
    let e = vectoring_spends a t refl (omega arith) in
    let m = mul-le-mul_left (2 ^ 28) e in
    close' (2 ^ 28) (pos a) y (moved Linear Vectoring linear t).y (moved Linear Vectoring linear t).z 0 (a / 2 ^ 28) d
    (rw abs_times m)

-- the load of tanh's quotient is not refused
pub starts : (a : ℕ) (y : ℤ) → pos (nat_abs y + 2 ^ 24) ≤ℤ (pos a) → nat_abs y ≤ sum (parts_of a linear) + a / 2 ^ 28 + 27
starts a y h =
    let f = rw linear_length at (falls a 0 linear linear_rising) in
    let g = div-one a in
    omega (arith, ints)
