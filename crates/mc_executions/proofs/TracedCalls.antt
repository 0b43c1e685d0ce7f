-- Each call leaves a reader's record whole.
use Rattle.std.proofs.Common.{◌≡◌, ℕ, zero, suc, ◌^◌, ◌<◌, List, [], ◌∷◌, ◌++◌, refl, ap, sym, ◌∙◌, subst, arith, append-nil, None}
use Rattle.std.specs.Prelude.{All}
use Rattle.mc_words.specs.declared.history.Reply.{Reply}
use Rattle.mc_words.specs.declared.history.Reply.TheVariants.{Found, Absent, Busy}
use Rattle.mc_words.specs.declared.shape.Shape.{Shape}
use Rattle.mc_theory.specs.Lists.{Made, state_of}
use Rattle.mc_theory.specs.Readings.{Reading}
use Rattle.mc_shared.specs.Records.{ReaderRecord}
use Rattle.mc_shared.specs.Steps.{mark_at}
use Rattle.mc_reader.specs.Records.{HasLooked, HaveLooked}
use Rattle.mc_writer.specs.WriterCalls.{RepliesNow}
use Rattle.mc_cache.specs.Beside.{HasLookedBeside}
use Rattle.mc_executions.specs.ExecutionTraces.{looked, marked, no_parts, read_by, read_so_far}
use Rattle.mc_executions.specs.TracedCalls.{IsWhole, CallsKeepWhole}

-- what a whole record is made of has no running lookup
all_ended : {V : ℕ} {sh : Shape} {done : List Reading} (w : IsWhole V sh done) → done ≡ read_by w.0.ended
all_ended w = w.2.is ∙ (ap (λ r. read_by w.0.ended ++ read_so_far r) w.1 ∙ append-nil (read_by w.0.ended))

get_whole : (V : ℕ) (sh : Shape) (k : ℕ) (before after : ReaderRecord) (reply : Reply V) → k < 2 ^ 64 → HasLooked V sh k before after reply → IsWhole V sh before.done → IsWhole V sh after.done
get_whole V sh k before after reply small h w = (
  record { ended = looked k h.rs reply ∷ w.0.ended; running = None },
  refl,
  record { is = h.done ∙ (ap (λ (z : List Reading). z ++ h.rs) (all_ended w) ∙ sym (append-nil (read_by w.0.ended ++ h.rs))); each = ((small, h.looked), w.2.each); runs = tt },
)

many_whole : (V : ℕ) (sh : Shape) (ks : List ℕ) (before after : ReaderRecord) (replies : List (Reply V)) → All (λ k. k < 2 ^ 64) ks → HaveLooked V sh ks before after replies → IsWhole V sh before.done → IsWhole V sh after.done
many_whole V sh [] before after [] small h w = subst (λ (r : ReaderRecord). IsWhole V sh r.done) (sym h) w
many_whole V sh (k ∷ ks) before after (r ∷ rs) small h w = many_whole V sh ks h.0 after rs (λ i d l. small (suc i) d (omega (arith, l))) h.2 (get_whole V sh k before h.0 r (small zero k (omega arith)) h.1 w)
many_whole V sh [] before after (r ∷ rs) small h w = absurd h
many_whole V sh (k ∷ ks) before after [] small h w = absurd h

beside_whole : (V : ℕ) (sh : Shape) (k : ℕ) (acts : List Made) (before after : ReaderRecord) (reply : Reply V) → HasLookedBeside V sh k acts before after reply → IsWhole V sh before.done → IsWhole V sh after.done
beside_whole V sh k acts before after reply h w = by reply h.replies
  where
    by : (y : Reply V) → RepliesNow V sh k (state_of V sh acts) (λ i. mark_at i acts) before.done after.done y → IsWhole V sh after.done
    by (Found v at since) r = (
      record { ended = marked (mark_at r.2.1 acts) ∷ w.0.ended; running = None },
      refl,
      record { is = r.2.3 ∙ (ap (λ (z : List Reading). z ++ mark_at r.2.1 acts ∷ []) (all_ended w) ∙ sym (append-nil (read_by w.0.ended ++ mark_at r.2.1 acts ∷ []))); each = ((r.2.1, refl), w.2.each); runs = tt },
    )
    by (Absent at) r = subst (IsWhole V sh) (sym r.2) w
    by Busy r = absurd r

pub calls_keep_whole : (V : ℕ) → CallsKeepWhole V
calls_keep_whole V = record {
  new = λ sh. (no_parts, refl, record { is = refl; each = tt; runs = tt });
  get = get_whole V;
  get_many = many_whole V;
  get_beside = beside_whole V;
  falls_back = λ sh k before after reply small h w. beside_whole V sh k h.writer.acts h.mid after reply h.looked (get_whole V sh k before h.mid Busy small h.busy w);
}
