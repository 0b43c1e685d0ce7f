use Rattle.std.proofs.Common.{rules, arith, ◌≡◌, Some, ap, refl, sym, ◌∙◌}
use Rattle.mc_words.specs.declared.checked.Checked.{Checked}
use Rattle.mc_theory.specs.declared.access.Access.TheVariants as access
use Rattle.mc_lookup.specs.Machine.{next_access}
use Rattle.mc_reader.proofs.Course.{leads_self, leads_on, leads_mark, version_next, version_read, next_within}
use Rattle.mc_reader.proofs.running_lookup.conclude.Goals as goal

pub read_at-last-requires : goal.read_at-last-requires
read_at-last-requires g c =
    let V = g.row.V in
    let sh = c.args.cells.now.layout.shape in
    let mid = c.after_moment.new.self in
    let t = c.after_moment.ensures.takes in
    let shape = ap (λ (x : Checked). x.shape) t.shape ∙ c.requires.shape in
    let next : next_access {V = V} mid ≡ Some (access.Version c.stripe-stripe.result) = search rules in
    let place = version_read V sh mid c.args.lookup.now.key c.stripe-stripe.result c.args.version shape t.key c.stripe-stripe.ensures c.requires.version in
    (omega arith, (search rules, (place, next_within V sh mid _ _ shape next place)))

pub returns-else-after_last-clause-leads : goal.returns-else-after_last-clause-leads
returns-else-after_last-clause-leads g c =
    let V = g.row.V in
    let sh = c.args.cells.now.layout.shape in
    let old = c.args.seat.now in
    let lookup = c.args.lookup.now in
    let mid = c.after_moment.new.self in
    let moment = leads_on V sh old old c.read_at-at.new.reader lookup lookup mid access.Moment access.Moment c.read_at-at.result (leads_self V sh old lookup) c.read_at-at.ensures.of c.read_at-at.ensures.number c.read_at-at.ensures.one refl c.after_moment.ensures.takes in
    leads_on V sh old c.read_at-at.new.reader c.read_at-last.new.reader lookup mid c.after_last.new.self _ _ c.read_at-last.result moment c.read_at-last.ensures.of c.read_at-last.ensures.number c.read_at-last.ensures.one (sym (version_next V mid c.stripe-stripe.result c.stripe-stripe.ensures)) c.after_last.ensures.takes

pub returns-in_default-clause-leads : goal.returns-in_default-clause-leads
returns-in_default-clause-leads g c =
    let V = g.row.V in
    let sh = c.args.cells.now.layout.shape in
    let old = c.args.seat.now in
    let lookup = c.args.lookup.now in
    let mid = c.after_moment.new.self in
    let moment = leads_on V sh old old c.read_at-at.new.reader lookup lookup mid access.Moment access.Moment c.read_at-at.result (leads_self V sh old lookup) c.read_at-at.ensures.of c.read_at-at.ensures.number c.read_at-at.ensures.one refl c.after_moment.ensures.takes in
    leads_on V sh old c.read_at-at.new.reader c.read_at-last.new.reader lookup mid c.after_last.new.self _ _ c.read_at-last.result moment c.read_at-last.ensures.of c.read_at-last.ensures.number c.read_at-last.ensures.one (sym (version_next V mid c.stripe-stripe.result c.stripe-stripe.ensures)) c.after_last.ensures.takes

pub returns-in-Some-clause-leads : goal.returns-in-Some-clause-leads
returns-in-Some-clause-leads g c =
    let V = g.row.V in
    let sh = c.args.cells.now.layout.shape in
    let old = c.args.seat.now in
    let lookup = c.args.lookup.now in
    let mid = c.after_moment.new.self in
    let moment = leads_on V sh old old c.read_at-at.new.reader lookup lookup mid access.Moment access.Moment c.read_at-at.result (leads_self V sh old lookup) c.read_at-at.ensures.of c.read_at-at.ensures.number c.read_at-at.ensures.one refl c.after_moment.ensures.takes in
    let last = leads_on V sh old c.read_at-at.new.reader c.read_at-last.new.reader lookup mid c.after_last.new.self _ _ c.read_at-last.result moment c.read_at-last.ensures.of c.read_at-last.ensures.number c.read_at-last.ensures.one (sym (version_next V mid c.stripe-stripe.result c.stripe-stripe.ensures)) c.after_last.ensures.takes in
    leads_mark V sh old c.read_at-last.new.reader c.mark_unless_set.new.reader lookup c.after_last.new.self c.after_mark.new.self c.in-Some.i last c.mark_unless_set.ensures (c.after_mark.ensures.takes 0)
