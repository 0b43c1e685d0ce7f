-- Handles are all open, or none is.
use Rattle.std.proofs.Common.{ℕ, ◌≡◌, ◌≢◌, ◌+◌, ◌++◌, ◌<◌, ◌↔◌, get_or, get_or-set_other, List, [], ◌∷◌, Option, Some, MatchOption, length, All, inr, refl, sym, ◌∙◌, slice_get, subst, arith}
use Rattle.std.proofs.Math.ListN.{set, length-set, length-append, get_or-append}
use Rattle.std.proofs.Math.Seq.{get_or-append_seam}
use Rattle.std.proofs.lemmas.Option.{get_or_from_slice_get, slice_get_read, slice_get_within}
use Rattle.std.specs.List.{EachIndex, slice_index}
use Rattle.std.proofs.lemmas.List.Elements.{AllWithin-more_set, All-from_all_within}
use mathlib.Core.Option.{Option as Behind, none, some}
use Rattle.mc_cache.specs.Openings.{RefusesOpening}
use Rattle.mc_cache.specs.declared.opening.OpenError.{OpenError}
use Rattle.mc_cache.specs.declared.opening.OpenError.TheVariants as opening
use Rattle.mc_words.specs.Places.{IsWidth}
use Rattle.mc_words.specs.Readers.{HasReaders}
use Rattle.mc_words.specs.Shapes.{HasShards, IsShape}
use Rattle.mc_words.specs.declared.shape.Shape.{Shape}
use Rattle.mc_shared.specs.Records.{ReaderRecord}
use Rattle.mc_shards.specs.Openings.{HasSeenNothing, RefusesShards}
use Rattle.mc_shards.specs.Sharded.{Sharded}
use Rattle.mc_shards.specs.declared.opening.OpenShardsError.{OpenShardsError}
use Rattle.mc_shards.specs.declared.opening.OpenShardsError.TheVariants as error
use Rattle.mc_plan.specs.declared.answer.Why.{Why}
use Rattle.mc_door.specs.AnySides.{role_in, width_of}
use Rattle.mc_door.specs.Loading.{HaveSeenLoads, entries_in}
use Rattle.mc_door.specs.NewPasses.{HaveSeenNothing, IsLastPass, IsNewPass, IsPassOf, passes_on, shards_on, width_on}
use Rattle.mc_door.specs.Roles.{Role, Tries, Holds, Idle}
use Rattle.mc_door.specs.declared.any_side.AnySide.{AnySide}
use Rattle.mc_door.specs.declared.rest.Rest.{Rest}
use Rattle.cefrodil.specs.Inside.Filling.{AreAmong, HasPassesTo}
use Rattle.cefrodil.specs.Loading.{AreEntries, AreLoaded, entry_status}
use Rattle.cefrodil.specs.Open.{kept}
use Rattle.cefrodil.specs.RawShapes.{GoAsAsked, HasMix, HasPolicy, IsShapeOf}
use Rattle.cefrodil.specs.Openings.{AreOpened, IsPassAt, Keeps, RefusesOpen}
use Rattle.cefrodil.specs.declared.shape.RawShape.{RawShape}
use Rattle.cefrodil.specs.declared.raw_handle.RawHandle.{RawHandle}
use Rattle.mc_door.specs.declared.status.TheConstants.{NO_MEMORY}

pub keeps : (P : AnySide → Type 0) (b : Behind AnySide) (h : AnySide) → b ≡ some h → P h → Keeps P b
keeps P b h is holds = subst (Keeps P) (sym is) holds

keeps_more : (P Q : AnySide → Type 0) (b : Behind AnySide) → ((h : AnySide) → P h → Q h) → Keeps P b → Keeps Q b
keeps_more P Q none more has = absurd has
keeps_more P Q (some h) more has = more h has

-- what a pass that is given out is
abbrev pub IsGiven : Rest → Rest → AnySide → Type 0
IsGiven rest rest' h = (width_of h ≡ width_on rest) × IsLastPass (shards_on rest) (passes_on rest) (passes_on rest') (role_in h)

pub given_pass : (rest rest' : Rest) (given : Option AnySide) (held : AnySide) → MatchOption given (passes_on rest ≡ []) (IsGiven rest rest') → given ≡ Some held → IsGiven rest rest' held
given_pass rest rest' given held side is = subst (λ (o : Option AnySide). MatchOption o (passes_on rest ≡ []) (IsGiven rest rest')) is side

among_more : (others : List (List ReaderRecord)) (last : List ReaderRecord) (k : ℕ) (rs : List ReaderRecord) → slice_get others k ≡ Some rs → slice_get (others ++ last ∷ []) k ≡ Some rs
among_more others last k rs is =
    let within = slice_get_within others k rs is in
    slice_get_read (others ++ last ∷ []) (length (others ++ last ∷ [])) k rs refl (omega (arith, within, length-append others (last ∷ [])))
    (sym (get_or-append others (last ∷ []) rs k within ∙ get_or_from_slice_get others k rs rs is))

last_of : (others : List (List ReaderRecord)) (last : List ReaderRecord) → slice_get (others ++ last ∷ []) (length others) ≡ Some last
last_of others last =
    slice_get_read (others ++ last ∷ []) (length (others ++ last ∷ [])) (length others) last refl (omega (arith, length-append others (last ∷ []))) (sym (get_or-append_seam others last [] last))

-- the pass that is given out is one of the first, as are those that are left, one fewer
pub taken : (s : Sharded) (first passes others : List (List ReaderRecord)) (role : Role) → AreAmong first passes → IsLastPass s passes others role
    → IsPassOf s first role × AreAmong first others × (length passes ≡ length others + 1)
taken s first passes others (Tries s' rs) among given = (
  (given.0, given.1, (length others, among (length others) rs (subst (λ (ps : List (List ReaderRecord)). slice_get ps (length others) ≡ Some rs) (sym given.2) (last_of others rs)))),
  (λ k qs is. among k qs (subst (λ (ps : List (List ReaderRecord)). slice_get ps k ≡ Some qs) (sym given.2) (among_more others rs k qs is))),
  subst (λ (ps : List (List ReaderRecord)). length ps ≡ length others + 1) (sym given.2) (length-append others (rs ∷ [])),
)
taken s first passes others (Holds s' h) among given = absurd given
taken s first passes others Idle among given = absurd given

-- one more handle has its pass
pub passes_more : (first rest rest' : Rest) (handles : List RawHandle) (n : ℕ) (handle : RawHandle) (held : AnySide) → HasPassesTo first rest handles n → n < length handles
    → shards_on rest' ≡ shards_on rest → width_on rest' ≡ width_on rest → kept handle ≡ some held → IsGiven rest rest' held → HasPassesTo first rest' (set handles n handle) (n + 1)
passes_more first rest rest' handles n handle held f lt shards width is new =
    let given = taken (shards_on rest) (passes_on first) (passes_on rest) (passes_on rest') (role_in held) f.among new.1 in record {
      shards = shards ∙ f.shards;
      width = width ∙ f.width;
      left = omega (arith, f.left, given.2, length-set handles n handle);
      among = given.1;
      filled = AllWithin-more_set handles n handle lt (IsPassAt (shards_on first) (width_on first) (passes_on first)) f.filled
          (keeps (λ h. (width_of h ≡ width_on first) × IsPassOf (shards_on first) (passes_on first) (role_in h)) (kept handle) held is
          (new.0 ∙ f.width, subst (λ (s : Sharded). IsPassOf s (passes_on first) (role_in held)) f.shards given.0));
      closed = λ k d low high. let other : k ≢ n = omega arith in let within : k < length handles = omega (arith, length-set handles n handle) in
          rw get_or-set_other (f.closed k d (omega arith) within);
    }

pub all_passes : (first rest : Rest) (handles : List RawHandle) (n : ℕ) → HasPassesTo first rest handles n → n ≡ length handles
    → All (IsPassAt (shards_on first) (width_on first) (passes_on first)) handles
all_passes first rest handles n f end =
    All-from_all_within (IsPassAt (shards_on first) (width_on first) (passes_on first)) handles
    (subst (λ (k : ℕ). Rattle.std.specs.List.AllWithin (IsPassAt (shards_on first) (width_on first) (passes_on first)) handles 0 k) end f.filled)

-- a pass is new, as all of them are
new_pass : (V : ℕ) (s : Sharded) (passes : List (List ReaderRecord)) (role : Role) → All (HasSeenNothing V) passes → IsPassOf s passes role → IsNewPass V s role
new_pass V s passes (Tries s' rs) fresh of =
    let n = of.2.0 in let is = of.2.1 in (of.0, of.1, subst (HasSeenNothing V) (get_or_from_slice_get passes n rs rs is) (fresh n rs (slice_get_within passes n rs is)))
new_pass V s passes (Holds s' h) fresh of = absurd of
new_pass V s passes Idle fresh of = absurd of

pub are_opened : (raw : RawShape) (shards words : ℕ) (handles : List RawHandle) (sh : Shape) (first : Rest) → IsShapeOf raw sh
    → (shards_on first).shape ≡ sh → length (shards_on first).tables ≡ shards → GoAsAsked raw (shards_on first).tables → width_on first ≡ words → HaveSeenNothing words (passes_on first)
    → All (IsPassAt (shards_on first) (width_on first) (passes_on first)) handles → AreOpened raw shards words handles
are_opened raw shards words handles sh first of shape count policy wide fresh all = record {
  sharded = shards_on first;
  shape = rw shape of;
  count = count;
  policy = policy;
  has_passes = λ k d lt. keeps_more (λ h. (width_of h ≡ words) × IsPassOf (shards_on first) (passes_on first) (role_in h))
      (λ h. (width_of h ≡ words) × IsNewPass words (shards_on first) (role_in h)) (kept (get_or handles k d))
      (λ h has. (has.0, new_pass words (shards_on first) (passes_on first) (role_in h) fresh.each has.1))
      (subst (λ (w : ℕ). All (IsPassAt (shards_on first) w (passes_on first)) handles) wide all k d lt);
}

-- the fault is one of the number of handles, if that is cut to what the cache takes
table_refused : (sh : Shape) (cut handles : ℕ) (why : OpenError) → (HasReaders cut ↔ HasReaders handles) → RefusesOpening sh cut why → RefusesOpening sh handles why
table_refused sh cut handles (opening.Shape fault) same refused = refused
table_refused sh cut handles opening.Readers same refused = (refused.0, λ has. refused.1 (same.1 has))
table_refused sh cut handles opening.NoMemory same refused = (refused.0, same.0 refused.1)

pub refused_so_many : (sh : Shape) (shards cut handles : ℕ) (why : OpenShardsError) → (HasReaders cut ↔ HasReaders handles) → RefusesShards sh shards cut why → RefusesShards sh shards handles why
refused_so_many sh shards cut handles error.Shards same refused = refused
refused_so_many sh shards cut handles (error.Open why) same refused = (refused.0, table_refused sh cut handles why same refused.1)

-- and if there is none, memory was refused
pub refused_memory : (raw : RawShape) (shards words handles cut : ℕ) (sh : Shape) → IsWidth words → HasMix raw → HasPolicy raw → IsShapeOf raw sh → HasShards shards → IsShape sh → HasReaders cut
    → (HasReaders cut ↔ HasReaders handles) → RefusesOpen raw shards words handles NO_MEMORY
refused_memory raw shards words handles cut sh wide mixed ruled of many shaped has same = inr (sh, error.Open opening.NoMemory, wide, mixed, ruled, of, (many, (shaped, same.0 has)), refl)

pub are_loaded : (raw : RawShape) (shards words count : ℕ) (entries statuses : List ℕ) (passes : List RawHandle) (sh : Shape) (first : Rest) (left : List (ℕ × Why)) → IsShapeOf raw sh
    → (shards_on first).shape ≡ sh → length (shards_on first).tables ≡ shards → GoAsAsked raw (shards_on first).tables → width_on first ≡ words → length statuses ≡ count → AreEntries words (length entries) count
    → HaveSeenLoads words (shards_on first) (entries_in words count entries) left (passes_on first) → All (IsPassAt (shards_on first) (width_on first) (passes_on first)) passes
    → EachIndex statuses (λ i. slice_index statuses i ≡ entry_status left i) → AreLoaded raw shards words entries statuses passes
are_loaded raw shards words count entries statuses passes sh first left of shape tables policy wide many fit loaded all told = record {
  sharded = shards_on first;
  records = passes_on first;
  left = left;
  shape = rw shape of;
  count = tables;
  policy = policy;
  fits = subst (λ (n : ℕ). AreEntries words (length entries) n) (sym many) fit;
  loaded = subst (λ (n : ℕ). HaveSeenLoads words (shards_on first) (entries_in words n entries) left (passes_on first)) (sym many) loaded;
  has_passes = subst (λ (w : ℕ). All (IsPassAt (shards_on first) w (passes_on first)) passes) wide all;
  told = told;
}
