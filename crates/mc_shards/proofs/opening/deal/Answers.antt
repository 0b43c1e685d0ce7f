use Rattle.std.proofs.Common.{◌≡◌, [], ◌∷◌, ◌++◌, List, Some, ap, arith, length, subst, sym, ◌∙◌}
use Rattle.std.proofs.lemmas.List.{length_push}
use Rattle.std.proofs.lemmas.List.Elements.{All-pop, All-push, All-same}
use Rattle.mc_shared.specs.Records.{Opening, ReaderRecord}
use Rattle.mc_shards.specs.Inside.Dealt.{AreDealt}
use Rattle.mc_shards.proofs.Dealt.{dealt_more}
use Rattle.mc_shards.proofs.opening.deal.Goals as goal

pub loop-pass-preserved : goal.loop-pass-preserved
loop-pass-preserved g c =
    let was = c.loop-pass.invariant in
    let tables : List Opening = c.args.caches.now.items in
    let o : Opening = c.args.cache.now in
    let Fresh : ReaderRecord → Type 0 = λ r. (r.of ≡ o) × (r.front ≡ []) in
    let pass : List ReaderRecord = c.in-Some.pass in
    let reader : ReaderRecord = c.in-Some-pop.reader in
    let given = All-pop (AreDealt tables) c.loop-pass.given.items c.pop.new.self.items (Some pass) c.in-Some.ensures.items was.given in
    let readers = All-pop Fresh c.loop-pass.readers.items c.pop-in-Some.new.self.items (Some reader) c.in-Some-pop.ensures.items was.fresh in
    let more : List ReaderRecord = c.in_ok-with_reader.field-0 in
    let one : AreDealt (tables ++ o ∷ []) more = subst (AreDealt (tables ++ o ∷ [])) (sym c.in_ok-with_reader.ensures) (dealt_more tables o pass reader given.1 readers.1.0 readers.1.1) in
    let pushed : c.push.new.self.items ≡ c.loop-pass.dealt.items ++ more ∷ [] = c.in_ok-push.ensures.items in
    let fewer-given = ap length c.in-Some.ensures.items ∙ length_push c.pop.new.self.items pass in
    let fewer-readers = ap length c.in-Some-pop.ensures.items ∙ length_push c.pop-in-Some.new.self.items reader in
    record {
      many = omega (arith, was.many, fewer-given, fewer-readers);
      count = omega (arith, was.count, fewer-given, ap length pushed ∙ length_push c.loop-pass.dealt.items more);
      rest = omega (arith, was.rest, fewer-given, fewer-readers);
      fresh = readers.0;
      given = given.0;
      dealt = All-same (AreDealt (tables ++ o ∷ [])) c.push.new.self.items (c.loop-pass.dealt.items ++ more ∷ []) pushed (All-push (AreDealt (tables ++ o ∷ [])) c.loop-pass.dealt.items more was.dealt one);
    }
