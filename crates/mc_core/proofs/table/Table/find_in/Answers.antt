use Rattle.std.proofs.Common.{◌≡◌, ◌+◌, ◌*◌, ◌%◌, ℕ, subst, arith}
use Rattle.mc_words.specs.Standing.{Stands}
use Rattle.mc_core.specs.Inside.Tables.{shape_of_table, words_of_table}
use Rattle.mc_core.proofs.table.Table.find_in.Goals as goal

pub returns : goal.returns
returns g c = λ q i at st.
    let t = c.args.self.now in
    let is : q ≡ 4 * c.args.bucket + q % 4 = omega (arith, at) in
    c.loop-slot.invariant (q % 4) i (omega (arith, c.loop-slot-test.false)) (subst (λ (y : ℕ). Stands g.row.V (shape_of_table t) (words_of_table t) c.args.key y i) is st)
