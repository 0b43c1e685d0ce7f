-- What only private contracts say beside `Texts`.
use Rattle.std.specs.Prelude.{ℕ, List, []}
use Rattle.mc_theory.specs.declared.event.Stepped.{Stepped}
use Rattle.mc_theory.specs.declared.event.Stepped.TheVariants as stepped
use Rattle.mc_replay.specs.Texts.{done_line}

-- what is written after an access: the line of the lookup that it ended
abbrev pub end_text : {V : ℕ} → Stepped V → List ℕ
end_text (stepped.Done done) = done_line done
end_text given = []
