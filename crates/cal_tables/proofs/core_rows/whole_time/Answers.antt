use Rattle.std.proofs.Common.{◌≤◌, ◌<◌, ◌*◌, ◌^◌, ℕ, arith}
use Rattle.std.proofs.lemmas.Nat.{mul-le}
use Rattle.cal_tables.proofs.core_rows.whole_time.Goals as goal

-- the core time of a machine's cores
in_all : (lasted cores most : ℕ) → lasted ≤ most → cores < 256 → lasted * cores ≤ most * 256
in_all lasted cores most few small = mul-le lasted cores most 256 few (omega (arith, small))

pub returns-clause-whole : goal.returns-clause-whole
returns-clause-whole c = λ few.
    let all = in_all c.args.machine.now.lasted c.args.cores (2 ^ 100) few (let small = c.ranges.cores in omega (arith, small)) in
    let product = c.saturating_mul.ensures in
    omega (arith, all, product)

pub returns-clause-few : goal.returns-clause-few
returns-clause-few c = λ few.
    let all = in_all c.args.machine.now.lasted c.args.cores (2 ^ 92) few (let small = c.ranges.cores in omega (arith, small)) in
    let product = c.saturating_mul.ensures in
    omega (arith, all, product)
