use Rattle.std.proofs.Common.{arith}
use Rattle.mc_search.proofs.TakenItems.{returned_below, returned_many}
use Rattle.mc_search.proofs.free.FreeList.used.Goals as goal

pub overflow_sub-result : goal.overflow_sub-result
overflow_sub-result c =
    let f = c.args.self.now in
    let many = f.returned.data.ok.0 in
    omega (arith, many, c.len.ensures, returned_below f c.requires, returned_many f)

pub returns : goal.returns
returns c =
    let f = c.args.self.now in
    let many = f.returned.data.ok.0 in
    omega (arith, many, c.len.ensures, returned_below f c.requires, returned_many f)
