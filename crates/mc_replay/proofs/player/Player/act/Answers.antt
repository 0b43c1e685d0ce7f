use Rattle.std.proofs.Common.{◌≡◌, ℕ, ◌+◌, ◌++◌, ◌∷◌, [], Option, refl, subst, sym, ap, ◌∙◌, arith, rules}
use Rattle.std.proofs.lemmas.Bool.{false≢true}
use Rattle.std.specs.Prelude.{IsSome}
use Rattle.mc_theory.specs.Lists.{Made}
use Rattle.mc_theory.specs.Traces.{Trace, bit_of}
use Rattle.mc_theory.specs.declared.act.Act.{Act}
use Rattle.mc_theory.specs.declared.event.Stepped.{Stepped}
use Rattle.mc_plan.specs.Clerks.{IsOn}
use Rattle.mc_plan.proofs.Calls.MidCall.{on_width}
use Rattle.mc_replay.specs.Replay.{WriterMakes}
use Rattle.mc_replay.specs.Inside.Players.{shape_of_player, bit_given, with_acts}
use Rattle.mc_replay.specs.declared.player.Player.{Player}
use Rattle.mc_replay.proofs.WriterCalls.{may_act, words_after, bit_given_is, made_of, makes_one, call_goes_on, goes_on_as, TellsAs}
use Rattle.mc_replay.proofs.player.Player.act.Goals as goal

-- a value has few words, so each argument has room
pub next-requires : goal.next-requires
next-requires g c = let call = c.requires.call in omega (arith, on_width g.row.V c.args.self.now.clerk call.1.call call.1.from call.1.acts call.3.on)

pub step-requires : goal.step-requires
step-requires g c =
    let call = c.requires.call in
    let width = on_width g.row.V c.args.self.now.clerk call.1.call call.1.from call.1.acts call.3.on in
    (omega (arith, width), omega (arith, width))

pub bit_in-requires : goal.bit_in-requires
bit_in-requires g c = let call = c.requires.call in omega (arith, on_width g.row.V c.args.self.now.clerk call.1.call call.1.from call.1.acts call.3.on)

pub after-requires-room-P-Peek : goal.after-requires-room-P-Peek
after-requires-room-P-Peek g c κs = let call = c.requires.call in omega (arith, on_width g.row.V c.args.self.now.clerk call.1.call call.1.from call.1.acts call.3.on)

pub answer-requires : goal.answer-requires
answer-requires g c = let call = c.requires.call in omega (arith, on_width g.row.V c.args.self.now.clerk call.1.call call.1.from call.1.acts call.3.on)

pub unreachable-requires : goal.unreachable-requires
unreachable-requires g c =
    let call = c.requires.call in
    let allowed = c.in-Some.ensures.allowed call.1.call call.1.from call.1.acts call.3.on in
    let may = may_act g.row.V c.args.self.now call.0 call.1 call.2 c.in-Some.act call.3 allowed.0 allowed.1 (omega (arith, call.4)) in
    let wanting = (c.in-Err.ensures.lawful c.in-Some.act refl may).0 in
    search rules

pub after-requires : goal.after-requires
after-requires g c =
    let call = c.requires.call in
    let told : c.bit_in.result ≡ bit_of c.args.self.now.world.bits c.in-Some.act =
    c.bit_in.ensures ∙ ap (λ (y : Stepped g.row.V). bit_given y) (c.in-Ok.ensures.given c.in-Some.act refl) ∙ bit_given_is g.row.V c.args.self.now.world.bits c.in-Some.act in
    let words = words_after g.row.V c.args.self.now call.0 call.1 call.2 c.in-Some.act c.bit_in.result c.step.new.self call.3 told c.in-Ok.ensures.state in
    (omega (arith, on_width g.row.V c.args.self.now.clerk call.1.call call.1.from call.1.acts call.3.on), (call.1.call, call.1.from, call.1.acts, c.in-Some.act, call.3.on, sym c.in-Some.ensures.value, words))

pub returns-in-Ok-clause-made : goal.returns-in-Ok-clause-made
returns-in-Ok-clause-made g c = λ most p w call room.
    let old : Player g.row.V = c.args.self.now in
    let mid : Player g.row.V = record { world = c.step.new.self; clerk = c.after.new.self } in
    let new : Player g.row.V = record { world = c.step.new.self; clerk = c.answer.new.self } in
    let a = c.in-Some.act in
    let did = c.in-Ok.ensures.ok w call.at.world in
    let read : c.bit_in.result ≡ bit_of old.world.bits a =
    c.bit_in.ensures ∙ ap (λ (y : Stepped g.row.V). bit_given y) (c.in-Ok.ensures.given a refl) ∙ bit_given_is g.row.V old.world.bits a in
    let told : c.bit_in.result ≡ bit_of w.bits a = read ∙ ap (λ b. bit_of b a) call.at.world.bits in
    let words = words_after g.row.V old most p w a c.bit_in.result c.step.new.self call read c.in-Ok.ensures.state in
    let m : Made = made_of w a in
    let makes : WriterMakes g.row.V (shape_of_player old) w (m ∷ []) did.0 = makes_one g.row.V (shape_of_player old) w did.0 a did.1 in
    let events : did.0.events ≡ w.events + 1 = ap (λ (y : Trace g.row.V). y.events) did.1.2 in
    let on : IsOn g.row.V mid.clerk p.call p.from (p.acts ++ m ∷ []) = subst (λ (b : ℕ). IsOn g.row.V mid.clerk p.call p.from (p.acts ++ record { act = a; bit = b } ∷ [])) told (c.after.ensures.on p.call p.from p.acts a call.on (sym c.in-Some.ensures.value) words) in
    let next = call_goes_on g.row.V old mid most p w did.0 m call c.in-Ok.ensures.shape did.3 makes events c.after.ensures.shape on c.after.ensures.left in
    let tells : TellsAs g.row.V mid new c.answer.result = record { world = refl; shape = c.answer.ensures.shape; ends = c.answer.ensures.some; some = c.answer.ensures.told; none = c.answer.ensures.none } in
    record {
      made = m;
      after = did.0;
      makes = makes;
      shape = c.in-Ok.ensures.shape;
      goes_on = goes_on_as g.row.V old mid new (most + 1) (with_acts p (m ∷ [])) did.0 c.answer.result next c.in-Ok.ensures.shape c.after.ensures.left tells;
    }

pub returns-in-None-clause-made : goal.returns-in-None-clause-made
returns-in-None-clause-made g c = λ most p w call room. absurd (false≢true (subst (λ (o : Option Act). IsSome o) (sym c.next.ensures.value ∙ c.in-None.is) c.requires.runs))

pub returns-in-None-clause-refused : goal.returns-in-None-clause-refused
returns-in-None-clause-refused g c = tt

pub returns-in-Ok-clause-refused : goal.returns-in-Ok-clause-refused
returns-in-Ok-clause-refused g c = tt

pub returns-in-Err-NoMemory-clause-made : goal.returns-in-Err-NoMemory-clause-made
returns-in-Err-NoMemory-clause-made g c = tt

pub returns-in-Err-NoMemory-clause-refused : goal.returns-in-Err-NoMemory-clause-refused
returns-in-Err-NoMemory-clause-refused g c = refl
