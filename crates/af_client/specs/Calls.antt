-- What the calls of a client's proxy come to, by their answers.
use Rattle.std.specs.Prelude.{◌≡◌, ℕ, ◌+◌, ◌<◌, true, if◌then◌else◌, is_some, MatchOption, Option, Some, None, List, [], ◌∷◌, ◌++◌, length}
use Rattle.af_base.specs.declared.event.ClientCall.{ClientCall}
use Rattle.af_base.specs.declared.event.ClientCall.TheVariants as call
use Rattle.af_base.specs.declared.event.ClientEvent.TheVariants as client
use Rattle.af_model.specs.History.{is_lawful}
use Rattle.af_model.specs.ClientCalls.{filled_by, IsInvalid, ClientAnswers, client_events_of}
use Rattle.af_cblk.specs.declared.view.ClientPart.{ClientPart}
use Rattle.af_cblk.specs.Parts.{Has, word_at, filled, client_did, client_saw_front}
use Rattle.af_client.specs.declared.put.Opened.{Opened}
use Rattle.af_client.specs.declared.put.Opened.TheVariants as opened
use Rattle.af_client.specs.declared.write.Wrote.{Wrote}
use Rattle.af_client.specs.declared.write.Wrote.TheVariants as wrote
use Rattle.af_client.specs.Order.{ClientState, client_kept_of}
use Rattle.std.specs.Prelude.{slice_index}

-- ## What holds of every call

-- the answer is one for the words seen and the list before; `asked` is how many frames the call was given
abbrev pub Answers : ClientState → ℕ → ClientCall → Type 0
Answers c asked answer = let k = c.pass.part.shape in ClientAnswers k.frames k.cells k.base c.pass.part.events asked answer

-- the events of the answer were added, and nothing else
abbrev pub AddsEvents : ClientState → ClientCall → ClientState → Type 0
AddsEvents c answer d =
    let k = c.pass.part.shape in d.pass.part.events ≡ c.pass.part.events ++ client_events_of k.frames k.base c.pass.part.events answer

-- the answer is one for the words seen and the list before, and its events were added
abbrev pub Does : ClientState → ℕ → ClientCall → ClientState → Type 0
Does c asked answer d = Answers c asked answer × AddsEvents c answer d

-- these frames were released, each as its word, and what was learnt stays
abbrev pub Releases : ClientState → List ℕ → ClientState → Type 0
Releases c words d = (d.pass.part.frames ≡ c.pass.part.frames ++ words) × (d.pass.part.learnt ≡ c.pass.part.learnt)

-- ## Writing

abbrev pub wrote_call : Wrote → ClientCall
wrote_call (wrote.Put front count rest) = call.Put front count
wrote_call (wrote.Full front) = call.Full front
wrote_call (wrote.Dead flags) = call.Dead flags
wrote_call (wrote.Corrupt front rear) = call.Corrupt front rear

-- how many frames a write released
abbrev pub put_by : Wrote → ℕ
put_by (wrote.Put front count rest) = count
put_by _ = 0

-- the words that shut the proxy, if a write found or finds it shut
abbrev pub shut_by : Wrote → Option (ℕ × ℕ)
shut_by (wrote.Corrupt front rear) = Some (front, rear)
shut_by _ = None

-- what a put leaves of the room
abbrev pub Leaves : ClientState → Wrote → Type 0
Leaves c (wrote.Put front count rest) = filled_by (client_kept_of c.pass.part) front + count + rest ≡ c.pass.part.shape.frames
Leaves c _ = Unit {0}

-- a put steps once for the flags, for front, for each cell and for rear
abbrev pub write_steps : ClientState → Wrote → ℕ
write_steps c (wrote.Put front count rest) = count + 3
write_steps c (wrote.Full front) = 2
write_steps c (wrote.Dead flags) = 1
write_steps c (wrote.Corrupt front rear) = if is_some c.shut then 0 else 2

abbrev pub IsCorrupt : Wrote → Type 0
IsCorrupt (wrote.Corrupt front rear) = Unit {0}
IsCorrupt _ = ⊥

-- ## The parts of a write

-- the flags without INVALID, and then front, were seen
abbrev pub saw_both : ClientPart → ℕ → ClientPart
saw_both p front = client_saw_front (client_did p (client.SawFlags 0)) front

-- What a look at flags and front comes to: there is room for so many frames, INVALID was seen, or the words do not fit the block, in this call or in the one that shut the proxy
abbrev pub Opens : ClientPart → ℕ → Option (ℕ × ℕ) → Opened → ClientPart → Option (ℕ × ℕ) → Type 0
Opens p rear shut (opened.Open front room) q shut' = (shut ≡ None) × (q ≡ saw_both p front) × (filled q + room ≡ p.shape.frames) × (shut' ≡ None)
Opens p rear shut (opened.Dead flags) q shut' = (shut ≡ None) × IsInvalid flags × (q ≡ client_did p (client.SawFlags flags)) × (shut' ≡ None)
Opens p rear shut (opened.Corrupt front back) q shut' =
    (shut' ≡ Some (front, back))
    × MatchOption shut
    ((q ≡ saw_both p front) × (back ≡ rear) × (p.shape.frames < filled q) × (is_lawful p.events ≡ true → ⊥))
    (λ words. (words ≡ (front, back)) × (q ≡ p))

abbrev pub open_steps : Option (ℕ × ℕ) → Opened → ℕ
open_steps shut (opened.Open front room) = 2
open_steps shut (opened.Dead flags) = 1
open_steps shut (opened.Corrupt front rear) = if is_some shut then 0 else 2

-- the first n words were stored for the next frames
abbrev pub Stored : ClientPart → List ℕ → ℕ → Type 0
Stored c words n = (k : ℕ) → k < n → Has c.stored (length c.frames + k) × (word_at c.stored (length c.frames + k) ≡ slice_index words k)

-- but for the cells stored, the part is as before
abbrev pub SameBut : ClientPart → ClientPart → Type 0
SameBut c d = d ≡ (record c { stored = d.stored })

-- these words were released, and else the part is as before
abbrev pub PutOn : ClientPart → ℕ → List ℕ → ClientPart → Type 0
PutOn c count words d =
    d ≡ (record c { events = c.events ++ client.Release count ∷ []; frames = c.frames ++ words; stored = d.stored })
