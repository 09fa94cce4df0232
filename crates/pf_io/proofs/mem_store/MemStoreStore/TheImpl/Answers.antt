use Rattle.std.proofs.Common.{ℕ, ◌≡◌, ◌≤◌, take, length, List, ◌++◌, rules, arith, length-take-le}
use Rattle.std.proofs.lemmas.List.{take-append-le, take-take}
use Rattle.pf_io.proofs.mem_store.MemStoreStore.TheImpl.Goals as goal
use Rattle.pf_io.proofs.FailingCalls.{stays, passes}

-- what was put before the rest is taken back
taken_back : (n : ℕ) (xs ys : List ℕ) → n ≤ length xs → take n (take n xs ++ ys) ≡ take n xs
taken_back n xs ys within = grind (arith, take-append-le n (take n xs) ys, take-take n n xs, length-take-le n xs)

pub open-tells : goal.open-tells
open-tells c = search (rules, stays c.args.self.now c.new.self.now, passes c.args.self.now)

pub read-tells : goal.read-tells
read-tells c = search (rules, stays c.args.self.now c.new.self.now, passes c.args.self.now, taken_back)

pub create-tells : goal.create-tells
create-tells c = search (rules, stays c.args.self.now c.new.self.now, passes c.args.self.now)

pub write-tells : goal.write-tells
write-tells c = search (rules, stays c.args.self.now c.new.self.now, passes c.args.self.now)

pub say-tells : goal.say-tells
say-tells c = search (rules, stays c.args.self.now c.new.self.now, passes c.args.self.now)
