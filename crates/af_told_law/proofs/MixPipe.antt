-- What a mix leaves of the pipe is told by the run's mix, if its look saw the number of frames taken before.
use Rattle.std.proofs.Common.{◌≡◌, ℕ, Bool, true, if◌then◌else◌, map, List, ◌∷◌, ◌++◌, length, sym, ap, ◌∙◌, subst}
use Rattle.af_told_law.proofs.Common.{ClientEvent, EntrySeen, MixerState, PipeTold, ServerEvent, SubmixSlot, Takes, entry_slot, frames_taken, is_mixed, mixed_pipe, ones, packed_word, slot_frames, takes_shown, two, twos, wrapped}
use Rattle.af_base.specs.declared.event.ServerEvent.TheVariants as server
use Rattle.af_judge.proofs.QueueSteps.{ones_stay, twos_more}

-- the ends of the pipe did and have what is told
pub record PipeTells (p : PipeTold) (puts : List ClientEvent) (put : List ℕ) (f : MixerState) : Type 0 where
  pub puts_are : puts ≡ ones p.told
  pub put_is : put ≡ p.put
  pub takes : f.pipe.pass.part.events ≡ twos p.told
  pub taken : f.pipe.pass.part.frames ≡ p.taken

module _ (f g : MixerState) (e : EntrySeen) (p : PipeTold) (puts : List ClientEvent) (put : List ℕ) (h : PipeTells p puts put f) (mixed : is_mixed e.entry.cycle ≡ true) (takes : Takes f g e.entry)
    (submix : SubmixSlot f.frames f.pipe.pass.part.events g.pipe.pass.part.events (entry_slot e.entry 0)) (front : submix.front ≡ wrapped (length f.pipe.pass.part.frames))
    (frames : frames_taken g.log.frames (entry_slot e.entry 0) ≡ slot_frames e 0) where
  abbrev more : List ServerEvent
  more = server.SawRear (entry_slot e.entry 0).rear ∷ server.SawFront (wrapped (length p.taken)) ∷ takes_shown (entry_slot e.entry 0).seen

  abbrev after : PipeTold
  after = record p { told = p.told ++ map two more; taken = p.taken ++ map packed_word (slot_frames e 0) }

  after_told : PipeTells after puts put g
  after_told = record {
    puts_are = h.puts_are ∙ sym (ones_stay p.told more);
    put_is = h.put_is;
    takes = submix.list ∙ (λ j. h.takes j ++ server.SawRear (entry_slot e.entry 0).rear ∷ server.SawFront ((front ∙ ap (λ (l : List ℕ). wrapped (length l)) h.taken) j) ∷ takes_shown (entry_slot e.entry 0).seen)
        ∙ sym (twos_more p.told more);
    taken = takes.piped mixed ∙ (λ j. h.taken j ++ map packed_word (frames j));
  }

  pub pipe_mixed : PipeTells (mixed_pipe e p) puts put g
  pipe_mixed = subst (λ (b : Bool). PipeTells (if b then after else p) puts put g) (sym mixed) after_told
