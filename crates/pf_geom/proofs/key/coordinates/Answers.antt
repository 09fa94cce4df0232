use Rattle.std.proofs.Common.{◌≡◌, ◌-◌, refl, arith}
use Rattle.pf_geom.proofs.KeyLoops.{AreRead-more, AreRead-none, AreRead-fit, Fit}
use Rattle.pf_geom.proofs.key.coordinates.Goals as goal
use Rattle.pf_geom.proofs.key.coordinates.Goals.{In-loop-place}

pub loop-place-init : goal.loop-place-init
loop-place-init c =
    let none : c.args.count - c.args.count ≡ 0 = omega arith in
    rw none (AreRead-none _)

fit : (c : In-loop-place) → Fit c.loop-place.x c.loop-place.y c.loop-place.z
fit c =
    AreRead-fit (c.args.count - c.loop-place.place) _ c.loop-place.x c.loop-place.y c.loop-place.z (omega arith) c.loop-place.invariant

pub overflow_mul-x : goal.overflow_mul-x
overflow_mul-x c = let fits = (fit c).x_fits in omega arith

pub overflow_add-x : goal.overflow_add-x
overflow_add-x c = let fits = (fit c).x_fits in omega arith

pub overflow_mul-y : goal.overflow_mul-y
overflow_mul-y c = let fits = (fit c).y_fits in omega arith

pub overflow_add-y : goal.overflow_add-y
overflow_add-y c = let fits = (fit c).y_fits in omega arith

pub overflow_mul-z : goal.overflow_mul-z
overflow_mul-z c = let fits = (fit c).z_fits in omega arith

pub overflow_add-z : goal.overflow_add-z
overflow_add-z c = let fits = (fit c).z_fits in omega arith

pub loop-place-preserved : goal.loop-place-preserved
loop-place-preserved c =
    AreRead-more c.args.count c.args.key c.loop-place.place c.loop-place.x c.loop-place.y c.loop-place.z _ c.loop-place-test.true c.loop-place.auto.place refl c.loop-place.invariant
