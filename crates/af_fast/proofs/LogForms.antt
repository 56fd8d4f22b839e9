-- The log of a mixer keeps the form that a journal asks for.
use Rattle.std.proofs.Common.{◌≡◌, ℕ, ◌+◌, List, ◌++◌, length, drop, refl, sym, ap, ◌∙◌, subst, arith, All}
use Rattle.af_fast.proofs.Common.{All-drop, CycleEntry, Frame, IsFrame, drop_at, length-append, slots, taken_before}
use Rattle.af_model.specs.Journals.{taken_by}
use Rattle.af_model.proofs.EntriesMore.{AreWhole, Follows, one_more}
use Rattle.af_model.proofs.EntryForms.{entry_form}
use Rattle.af_fast.specs.Mixer.{MixerState, adopted_states}
use Rattle.af_fast.specs.Mixing.{AddsCycle}
use Rattle.af_fast.specs.Slots.{found}

as_taken : (entry : CycleEntry) (n : ℕ) → n ≡ taken_before entry slots → n ≡ taken_by entry
unfolding taken_by
as_taken entry n is = is

module _ (m m' : MixerState) (entry : CycleEntry) (adds : AddsCycle m m' entry) (samples : All IsFrame m'.log.frames) where
  abbrev more : List Frame
  more = adds.takes.grown.0

  grown : m'.log.frames ≡ m.log.frames ++ more
  grown = adds.takes.grown.1

  count : length more ≡ taken_before entry slots
  count = let all = ap length grown ∙ length-append m.log.frames more in let total = adds.takes.total in omega (arith, all, total)

  follows : Follows (length m.log.frames) entry more
  follows = record {
    form = entry_form m.frames (adopted_states m) m.log.entries (length m.log.frames) (found m.observer m.pipe) (found m'.observer m'.pipe) entry adds.legal;
    count = as_taken entry (length more) count;
    samples = subst (All IsFrame) (ap (drop (length m.log.frames)) grown ∙ drop_at m.log.frames more (length m.log.frames) refl) (All-drop IsFrame (length m.log.frames) m'.log.frames samples);
  }

  -- the log keeps its form with the entry that a cycle adds
  pub log_form : AreWhole 0 m.log.frames m.log.entries → AreWhole 0 m'.log.frames m'.log.entries
  log_form whole = subst (λ (l : List Frame × List CycleEntry). AreWhole 0 l.0 l.1) (λ k. (sym grown k, sym adds.entries k))
      (one_more 0 m.log.frames m.log.entries entry more whole (subst (λ (n : ℕ). Follows n entry more) (let e : length m.log.frames ≡ 0 + length m.log.frames = omega arith in e) follows))
