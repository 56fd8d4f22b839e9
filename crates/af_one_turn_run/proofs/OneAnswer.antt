-- A want has one answer at a point.
use Rattle.std.proofs.Common.{◌≡◌, ℕ, ◌+◌, ◌<◌, ◌≤◌, ◌==◌, nat_le, Bool, true, false, true≢false, is_some, List, [], ◌∷◌, Option, Some, None, refl, sym, ap, ◌∙◌, subst, arith, eqb-true, ne_eqb, eq-eqb, if◌then◌else◌, ◌*◌, nat_lt, bit_and}
use Rattle.af_one_turn_run.proofs.Common.{AnswersOn, ClientAnswers, ClientCall, ClientEvent, ClientKept, IsMade, IsOutside, MatchOption, Side, Track, TrackPoint, Want, argument_of, bit_and, both, by_false, client_events_of, client_kept, command_code, filled_by, flushes_of, is_below, is_beyond, is_clear, is_flush, is_not_below, is_of_commands, is_send, is_status, is_within, is_write, put_count, side_of, wrapped}
use Rattle.std.proofs.lemmas.Bool.Decides.{nat_tests}
use Rattle.af_base.specs.declared.event.ClientCall.TheVariants as call
use Rattle.af_base.specs.declared.event.ClientEvent.TheVariants as client
use Rattle.af_runs.specs.declared.want.ClientCommand.TheVariants as command
use Rattle.af_runs.specs.declared.want.Want.TheVariants as want
use Rattle.af_one_turn_run.proofs.Seeing.{ClientSees}

-- the answer of a proxy that was shut, of one that finds no INVALID, and of one that finds it
abbrev pub call_by : Option (ℕ × ℕ) → Bool → (corrupt : ℕ → ℕ → ClientCall) → (valid dead : ClientCall) → ClientCall
call_by None true corrupt valid dead = valid
call_by None false corrupt valid dead = dead
call_by (Some words) valid_is corrupt valid dead = corrupt words.0 words.1

-- the answer by the room: there is some, there is none, or the front lies outside
abbrev pub room_by : (some none : Bool) → (done full outside : ClientCall) → ClientCall
room_by true none done full outside = done
room_by false true done full outside = full
room_by false false done full outside = outside

-- a point whose flags have no INVALID
abbrev pub is_valid : TrackPoint → Bool
is_valid p = bit_and p.flags 4 == 0

-- what a write answers by a front, and at a point
abbrev pub written_by : (frames cells : ℕ) → ClientKept → (asked front : ℕ) → ClientCall
written_by frames cells kept asked front =
    let filled = filled_by kept front in
    room_by (nat_lt filled frames) (filled == frames) (call.Put front (put_count frames cells kept front asked)) (call.Full front) (call.Corrupt front (wrapped kept.position))

abbrev pub written : (frames cells : ℕ) → ClientKept → ℕ → TrackPoint → ClientCall
written frames cells kept asked p = call_by kept.shut (is_valid p) call.Corrupt (written_by frames cells kept asked (wrapped p.consumed)) (call.Dead p.flags)

-- what a send of a command answers by a front, and at a point
abbrev pub sent_by : ℕ → ClientKept → (code argument front : ℕ) → ClientCall
sent_by frames kept code argument front =
    let filled = filled_by kept front in
    room_by (nat_le (filled + 2) frames) (nat_le filled frames) (call.Sent front code argument) (call.SendFull front) (call.SendCorrupt front (wrapped kept.position))

abbrev pub sent : ℕ → ClientKept → (code argument : ℕ) → TrackPoint → ClientCall
sent frames kept code argument p = call_by kept.shut (is_valid p) call.SendCorrupt (sent_by frames kept code argument (wrapped p.consumed)) (call.SendDead p.flags)

-- what a side keeps of its client
abbrev pub kept_of : Side → ClientKept
kept_of b = client_kept b.shape.frames b.shape.base b.events

-- what a send on a track answers, and a write
abbrev pub sent_on : Track → (code argument : ℕ) → TrackPoint → ClientCall
sent_on t code argument p = sent t.commands.shape.frames (kept_of t.commands) code argument p

abbrev pub written_on : Track → ℕ → TrackPoint → ClientCall
written_on t asked p = written t.stream.shape.frames t.stream.shape.cells (kept_of t.stream) asked p

-- The answer to a want, if the stream block and the command block stand at these points
abbrev pub answer_to : Track → Want → (stream commands : TrackPoint) → ClientCall
answer_to t (want.Send sending) stream commands = sent_on t (command_code sending) (argument_of t sending) commands
answer_to t want.Settled stream commands = call.Status commands.status
answer_to t want.Drained stream commands = call.Status commands.status
answer_to t want.Flush stream commands = call.Flush (flushes_of t.stream.events + 1)
answer_to t (want.Gain left right) stream commands = call.Gain (left + 65536 * right)
answer_to t (want.Write count) stream commands = written_on t count stream
answer_to t want.Clear stream commands = call.Cleared stream.flags
answer_to t (want.Poke in_command word value) stream commands = call.Poke in_command word value
answer_to t want.Rest stream commands = call.Gain 0
answer_to t want.Leave stream commands = sent_on t (command_code command.Remove) 0 commands

-- ## Tests

eq_no : (a b : ℕ) → b < a → (a == b) ≡ false
eq_no a b h = grind (arith, nat_tests, h)

-- ## Writes and sends

module _ (frames cells base : ℕ) (events : List ClientEvent) (p : TrackPoint) (n : ℕ) where
  abbrev kept : ClientKept
  kept = client_kept frames base events

  abbrev Sees : ClientCall → Type 0
  Sees answer = ClientSees p n (client_events_of frames base events answer)

  -- the call of a proxy that isn't shut and finds no INVALID, or finds it
  valid : (corrupt : ℕ → ℕ → ClientCall) (here dead : ClientCall) → kept.shut ≡ None → bit_and p.flags 4 ≡ 0 → here ≡ call_by kept.shut (is_valid p) corrupt here dead
  valid corrupt here dead free zero = λ i. call_by (sym free i) (sym (eq-eqb (bit_and p.flags 4) 0 zero) i) corrupt here dead

  dead_now : (corrupt : ℕ → ℕ → ClientCall) (here dead : ClientCall) → kept.shut ≡ None → (bit_and p.flags 4 ≡ 0 → ⊥) → dead ≡ call_by kept.shut (is_valid p) corrupt here dead
  dead_now corrupt here dead free some = λ i. call_by (sym free i) (sym (ne_eqb (bit_and p.flags 4) 0 some) i) corrupt here dead

  -- the flags that a dead answer shows
  flags_dead : (flags : ℕ) → (bit_and flags 4 ≡ 0 → ⊥) → ClientSees p n (client.SawFlags flags ∷ []) → flags ≡ p.flags
  flags_dead flags some sees = by_false (bit_and p.flags 4 ≡ 0) (flags ≡ p.flags) (bit_and flags 4 == 0) (ne_eqb (bit_and flags 4) 0 some) sees.0

  -- a shut proxy answers by the words that shut it, and one that isn't saw them
  corrupt_so : (corrupt : ℕ → ℕ → ClientCall) (front rear : ℕ) (valid_is : ℕ → ClientCall) (dead : ClientCall)
      → ((front : ℕ) → frames < filled_by kept front → corrupt front (wrapped kept.position) ≡ valid_is front)
      → IsOutside frames kept front rear
      → (is_some kept.shut ≡ false → (bit_and p.flags 4 ≡ 0) × (front ≡ wrapped p.consumed))
      → corrupt front rear ≡ call_by kept.shut (is_valid p) corrupt (valid_is (wrapped p.consumed)) dead
  corrupt_so corrupt front rear valid_is dead by_front out sees = by_shut kept.shut refl out sees
    where
      by_shut : (o : Option (ℕ × ℕ)) → kept.shut ≡ o → MatchOption o ((rear ≡ wrapped kept.position) × (frames < filled_by kept front)) (λ words. words ≡ (front, rear)) → (is_some o ≡ false → (bit_and p.flags 4 ≡ 0) × (front ≡ wrapped p.consumed))
          → corrupt front rear ≡ call_by o (is_valid p) corrupt (valid_is (wrapped p.consumed)) dead
      by_shut None is h sees = let s = sees refl in
          (λ i. corrupt (s.1 i) (h.0 i)) ∙ by_front (wrapped p.consumed) (subst (λ f. frames < filled_by kept f) s.1 h.1) ∙ (λ i. call_by None (sym (eq-eqb (bit_and p.flags 4) 0 s.0) i) corrupt (valid_is (wrapped p.consumed)) dead)
      by_shut (Some words) is h sees = λ i. corrupt (sym h i).0 (sym h i).1

  -- what a call saw that found its block corrupt, if it looked
  saw_both : (b : Bool) (front : ℕ) → ClientSees p n (if b then [] else client.SawFlags 0 ∷ client.SawFront front ∷ []) → b ≡ false → (bit_and p.flags 4 ≡ 0) × (front ≡ wrapped p.consumed)
  saw_both true front sees is = absurd (true≢false is)
  saw_both false front sees is = (sees.0, sees.1.0)

  -- a write has one answer
  written_so : (asked : ℕ) (answer : ClientCall) → is_write answer ≡ true → ClientAnswers frames cells base events asked answer → Sees answer → answer ≡ written frames cells kept asked p
  written_so asked (call.Put front count) is h sees =
      (λ i. call.Put (sees.1.0 i) (h.2 i)) ∙ (λ i. call.Put (wrapped p.consumed) (put_count frames cells kept (sees.1.0 i) asked))
      ∙ (λ i. room_by (sym (is_below (filled_by kept (wrapped p.consumed)) frames (subst (λ f. filled_by kept f < frames) sees.1.0 h.0.1)) i) (filled_by kept (wrapped p.consumed) == frames) (call.Put (wrapped p.consumed) (put_count frames cells kept (wrapped p.consumed) asked)) (call.Full (wrapped p.consumed)) (call.Corrupt (wrapped p.consumed) (wrapped kept.position)))
      ∙ valid call.Corrupt (written_by frames cells kept asked (wrapped p.consumed)) (call.Dead p.flags) h.0.0 sees.0
  written_so asked (call.Full front) is h sees =
      let full : filled_by kept (wrapped p.consumed) ≡ frames = subst (λ f. filled_by kept f ≡ frames) sees.1.0 h.1 in
      ap call.Full sees.1.0
      ∙ (λ i. room_by (sym (is_not_below (filled_by kept (wrapped p.consumed)) frames (omega (arith, full))) i) (sym (eq-eqb (filled_by kept (wrapped p.consumed)) frames full) i) (call.Put (wrapped p.consumed) (put_count frames cells kept (wrapped p.consumed) asked)) (call.Full (wrapped p.consumed)) (call.Corrupt (wrapped p.consumed) (wrapped kept.position)))
      ∙ valid call.Corrupt (written_by frames cells kept asked (wrapped p.consumed)) (call.Dead p.flags) h.0 sees.0
  written_so asked (call.Dead flags) is h sees = ap call.Dead (flags_dead flags h.1 sees) ∙ dead_now call.Corrupt (written_by frames cells kept asked (wrapped p.consumed)) (call.Dead p.flags) h.0 (λ zero. h.1 (ap (λ f. bit_and f 4) (flags_dead flags h.1 sees) ∙ zero))
  written_so asked (call.Corrupt front rear) is h sees =
      corrupt_so call.Corrupt front rear (written_by frames cells kept asked) (call.Dead p.flags)
      (λ f past. λ i. room_by (sym (is_not_below (filled_by kept f) frames (omega (arith, past))) i) (sym (eq_no (filled_by kept f) frames past) i) (call.Put f (put_count frames cells kept f asked)) (call.Full f) (call.Corrupt f (wrapped kept.position)))
      h (saw_both (is_some kept.shut) front sees)
  written_so asked answer is h sees = absurd (true≢false (sym is))

  -- a send has one answer
  sent_so : (asked code argument : ℕ) (answer : ClientCall) → is_send code argument answer ≡ true → ClientAnswers frames cells base events asked answer → Sees answer → answer ≡ sent frames kept code argument p
  sent_so asked code argument (call.Sent front sent_code sent_argument) is h sees =
      (λ i. call.Sent (sees.1.0 i) (eqb-true sent_code code (both (sent_code == code) (sent_argument == argument) is).0 i) (eqb-true sent_argument argument (both (sent_code == code) (sent_argument == argument) is).1 i))
      ∙ (λ i. room_by (sym (is_within (filled_by kept (wrapped p.consumed) + 2) frames (subst (λ f. filled_by kept f + 2 ≤ frames) sees.1.0 h.1)) i) (nat_le (filled_by kept (wrapped p.consumed)) frames) (call.Sent (wrapped p.consumed) code argument) (call.SendFull (wrapped p.consumed)) (call.SendCorrupt (wrapped p.consumed) (wrapped kept.position)))
      ∙ valid call.SendCorrupt (sent_by frames kept code argument (wrapped p.consumed)) (call.SendDead p.flags) h.0 sees.0
  sent_so asked code argument (call.SendFull front) is h sees =
      let few : filled_by kept (wrapped p.consumed) ≤ frames = subst (λ f. filled_by kept f ≤ frames) sees.1.0 h.1.0 in
      let full : frames < filled_by kept (wrapped p.consumed) + 2 = subst (λ f. frames < filled_by kept f + 2) sees.1.0 h.1.1 in
      ap call.SendFull sees.1.0
      ∙ (λ i. room_by (sym (is_beyond (filled_by kept (wrapped p.consumed) + 2) frames full) i) (sym (is_within (filled_by kept (wrapped p.consumed)) frames few) i) (call.Sent (wrapped p.consumed) code argument) (call.SendFull (wrapped p.consumed)) (call.SendCorrupt (wrapped p.consumed) (wrapped kept.position)))
      ∙ valid call.SendCorrupt (sent_by frames kept code argument (wrapped p.consumed)) (call.SendDead p.flags) h.0 sees.0
  sent_so asked code argument (call.SendDead flags) is h sees = ap call.SendDead (flags_dead flags h.1 sees) ∙ dead_now call.SendCorrupt (sent_by frames kept code argument (wrapped p.consumed)) (call.SendDead p.flags) h.0 (λ zero. h.1 (ap (λ f. bit_and f 4) (flags_dead flags h.1 sees) ∙ zero))
  sent_so asked code argument (call.SendCorrupt front rear) is h sees =
      corrupt_so call.SendCorrupt front rear (sent_by frames kept code argument) (call.SendDead p.flags)
      (λ f past. λ i. room_by (sym (is_beyond (filled_by kept f + 2) frames (omega (arith, past))) i) (sym (is_beyond (filled_by kept f) frames past) i) (call.Sent f code argument) (call.SendFull f) (call.SendCorrupt f (wrapped kept.position)))
      h (saw_both (is_some kept.shut) front sees)
  sent_so asked code argument answer is h sees = absurd (true≢false (sym is))

-- ## Any want

-- which block a call is made on
send_side : (code argument : ℕ) (answer : ClientCall) → is_send code argument answer ≡ true → is_of_commands answer ≡ true
send_side code argument (call.Sent front sent_code sent_argument) is = refl
send_side code argument (call.SendFull front) is = refl
send_side code argument (call.SendDead flags) is = refl
send_side code argument (call.SendCorrupt front rear) is = refl
send_side code argument answer is = absurd (true≢false (sym is))

write_side : (answer : ClientCall) → is_write answer ≡ true → is_of_commands answer ≡ false
write_side (call.Put front count) is = refl
write_side (call.Full front) is = refl
write_side (call.Dead flags) is = refl
write_side (call.Corrupt front rear) is = refl
write_side answer is = absurd (true≢false (sym is))

-- a call of a track sees what is there, if its blocks stand at these points, with so many events of their servers
pub record Points : Type 0 where
  pub stream : TrackPoint
  pub commands : TrackPoint
  pub stream_served : ℕ
  pub commands_served : ℕ

abbrev pub point_at : Points → Bool → TrackPoint
point_at p on_commands = if on_commands then p.commands else p.stream

abbrev pub served_at : Points → Bool → ℕ
served_at p on_commands = if on_commands then p.commands_served else p.stream_served

-- the events of a call on its side
abbrev pub events_by : Side → ClientCall → List ClientEvent
events_by b answer = client_events_of b.shape.frames b.shape.base b.events answer

abbrev pub CallSees : Track → Points → ClientCall → Type 0
CallSees t p answer = ClientSees (point_at p (is_of_commands answer)) (served_at p (is_of_commands answer)) (events_by (side_of t answer) answer)

module _ (t : Track) (p : Points) where
  send_made : (code argument asked : ℕ) (answer : ClientCall) → is_send code argument answer ≡ true → AnswersOn (side_of t answer) asked answer → CallSees t p answer → answer ≡ sent_on t code argument p.commands
  send_made code argument asked answer is h sees =
      let b = t.commands in
      let on = send_side code argument answer is in
      sent_so b.shape.frames b.shape.cells b.shape.base b.events p.commands p.commands_served asked code argument answer is
      (subst (λ on. AnswersOn (if on then t.commands else t.stream) asked answer) on h)
      (subst (λ on. ClientSees (point_at p on) (served_at p on) (events_by (if on then t.commands else t.stream) answer)) on sees)

  write_made : (asked : ℕ) (answer : ClientCall) → is_write answer ≡ true → AnswersOn (side_of t answer) asked answer → CallSees t p answer → answer ≡ written_on t asked p.stream
  write_made asked answer is h sees =
      let b = t.stream in
      let on = write_side answer is in
      written_so b.shape.frames b.shape.cells b.shape.base b.events p.stream p.stream_served asked answer is
      (subst (λ on. AnswersOn (if on then t.commands else t.stream) asked answer) on h)
      (subst (λ on. ClientSees (point_at p on) (served_at p on) (events_by (if on then t.commands else t.stream) answer)) on sees)

  status_made : (answer : ClientCall) → is_status answer ≡ true → CallSees t p answer → answer ≡ call.Status p.commands.status
  status_made (call.Status word) is sees = ap call.Status sees.0
  status_made answer is sees = absurd (true≢false (sym is))

  clear_made : (answer : ClientCall) → is_clear answer ≡ true → CallSees t p answer → answer ≡ call.Cleared p.stream.flags
  clear_made (call.Cleared flags) is sees = ap call.Cleared sees.0
  clear_made answer is sees = absurd (true≢false (sym is))

  flush_made : (asked : ℕ) (answer : ClientCall) → is_flush answer ≡ true → AnswersOn (side_of t answer) asked answer → answer ≡ call.Flush (flushes_of t.stream.events + 1)
  flush_made asked (call.Flush count) is h = ap call.Flush h
  flush_made asked answer is h = absurd (true≢false (sym is))

  -- a want has one answer that sees what is there
  pub made_so : (wanted : Want) (answer : ClientCall) → IsMade t wanted answer → CallSees t p answer → answer ≡ answer_to t wanted p.stream p.commands
  made_so (want.Send sending) answer h sees = send_made (command_code sending) (argument_of t sending) 0 answer h.0 h.1 sees
  made_so want.Settled answer h sees = status_made answer h.0 sees
  made_so want.Drained answer h sees = status_made answer h.0 sees
  made_so want.Flush answer h sees = flush_made 0 answer h.0 h.1
  made_so (want.Gain left right) answer h sees = h.0
  made_so (want.Write count) answer h sees = write_made count answer h.0 h.1 sees
  made_so want.Clear answer h sees = clear_made answer h.0 sees
  made_so (want.Poke in_command word value) answer h sees = h.0
  made_so want.Rest answer h sees = absurd h.0
  made_so want.Leave answer h sees = send_made (command_code command.Remove) 0 0 answer h.0 h.1 sees

  -- two answers to a want that see what is there are the same
  pub one_answer : (wanted : Want) (a b : ClientCall) → IsMade t wanted a → CallSees t p a → IsMade t wanted b → CallSees t p b → a ≡ b
  one_answer wanted a b made sees made_b sees_b = made_so wanted a made sees ∙ sym (made_so wanted b made_b sees_b)
