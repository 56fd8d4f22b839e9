-- What a turn hears of a track is no less than what was taken of it before the round; and what a round takes of a track in a slot.
use Rattle.std.proofs.Common.{◌≡◌, ℕ, ◌*◌, ◌≤◌, ◌<◌, min, if◌then◌else◌, Bool, true, false, length, sym, ap, ◌∙◌, arith, eq-eqb}
use Rattle.af_enough_law.proofs.Common.{BlockTold, FastTrack, Heard, Learnt, LegalRound, Marks, RoundSeen, Run, Session, Shape, SlotReport, TrackKept, after_round, before_turn, counts_in, grown, heard_at_home, heard_by, heard_elsewhere, heard_with, is_home, kept, learnt, listed, mul-le-mul_left, server_kept, server_list, slot_reported, told_at, track_at, with_calls}
use Rattle.af_enough_law.proofs.Basics.{stays_home, taken-append}
use Rattle.af_enough_law.proofs.FastWords.{Flowed, IsOpen, slot_told}
use Rattle.af_enough_law.proofs.NearWords.{RoundFlows}
use Rattle.af_enough_law.proofs.NormalRounds.{TurnMade}
use Rattle.af_enough_law.specs.Seen.{frames_taken}
use Rattle.af_enough_law.proofs.Fair.{calm_drops}
use Rattle.af_enough_law.proofs.FastConsumed.{told_open, open_consumed}
use Rattle.af_enough_law.proofs.FastFlows.{Later}
use Rattle.af_enough_law.proofs.FastFound.{FoundFor, shown_looks}
use Rattle.af_enough_law.proofs.FastRounds.{over}
use Rattle.af_enough_law.proofs.Following.{greeted_in}
use Rattle.af_enough_law.proofs.Foreseen.{Foreseen, early_quiet}
use Rattle.af_enough_law.proofs.Generations.{greeted_same, greeted_lent}
use Rattle.af_enough_law.proofs.LentRounds.{LentCarried}
use Rattle.af_enough_law.proofs.Nearing.{RoundHears}
use Rattle.af_enough_law.proofs.StreamCalm.{IsQuiet}

-- ## In a slot

-- a track that flows in a slot
pub slot_flows : (s : Session) (run : Run) (round : RoundSeen) (i slot : ℕ) → s.script.normal ≤ 16 → Flowed s run round i slot → RoundFlows s run round i
slot_flows s run round i slot few f =
    let a : s.script.frames * s.script.normal ≤ s.script.frames * 16 = mul-le-mul_left s.script.frames few in
    let b : s.script.normal * s.script.frames ≡ s.script.frames * s.script.normal = search arith in
    let c : s.script.frames * 16 ≡ 16 * s.script.frames = search arith in
    let taken = f.taken in
    let enough = f.enough in
    omega (arith, a, b, c, taken, enough)

-- what is heard of a proxy that is elsewhere is what the report says of its item
elsewhere_is : (h : Heard) (r : SlotReport) (g : TrackKept) → is_home g.holder ≡ false → r.generation ≡ g.generation → (heard_by h r g).known.consumed ≡ r.consumed
unfolding heard_by
elsewhere_is h r g away same =
    ap (λ (b : Bool). (if b then heard_at_home h g else heard_elsewhere r g).known.consumed) away
    ∙ ap (λ (b : Bool). (if b then heard_with r.consumed r.flush_seen r.shut (grown (counts_in r) g.reported) else g.at_attach).known.consumed) (eq-eqb r.generation g.generation same)

-- A turn hears by the report what was taken of a lent track before the round
pub lent_hears : (s : Session) (marks : Marks) (run : Run) (round : RoundSeen) (i slot : ℕ) (item : FastTrack) (t : TurnMade s marks run round) → LentCarried s run i slot item → IsOpen (told_at run i).stream
    → FoundFor (slot_told run slot) (shown_looks (slot_told (after_round s run round) slot)) (slot_reported (learnt t.by.outside) (greeted_in run.normal t.turn i)) item → RoundHears s marks run round i t
lent_hears s marks run round i slot item t l opens found =
    let g : TrackKept = greeted_in run.normal t.turn i in
    let r : SlotReport = slot_reported (learnt t.by.outside) g in
    let away : is_home g.holder ≡ false = ap is_home (greeted_lent t.turn.ack run.normal.last (track_at run.normal.tracks i) l.lent) in
    let same : item.generation ≡ g.generation = ap (λ (x : FastTrack). x.generation) l.item_is ∙ sym (greeted_same t.turn.ack run.normal.last (track_at run.normal.tracks i)).generation in
    let is = elsewhere_is ((learnt t.by.outside).own i) r g away (found.since.generation ∙ same) in
    let told = (told_open run i slot item l.told opens).consumed in
    let more = found.since.consumed in
    omega (arith, is, told, more)

-- ## At home

-- what is heard of a proxy at home is what its server knows
home_is : (h : Heard) (r : SlotReport) (g : TrackKept) → is_home g.holder ≡ true → (heard_by h r g).known.consumed ≡ h.known.consumed
unfolding heard_by
home_is h r g home = ap (λ (b : Bool). (if b then heard_at_home h g else heard_elsewhere r g).known.consumed) home

later_taken : (b later : BlockTold) → Later b later → frames_taken (server_list b) ≤ frames_taken (server_list later)
later_taken b later f = let a = ap frames_taken f.server in let c = taken-append (server_list b) f.events in omega (arith, a, c)

-- before the turn no less was taken than before the round
pub early_taken : (s : Session) (run : Run) (round : RoundSeen) (i : ℕ) → i < length run.tracks → frames_taken (server_list (told_at run i).stream) ≤ frames_taken (server_list (told_at (before_turn s run round) i).stream)
early_taken s run round i low =
    let o = over s run round i low in
    let a = later_taken (told_at run i).stream (told_at (with_calls round run) i).stream o.calls.is_later in
    let b = later_taken (told_at (with_calls round run) i).stream (told_at (before_turn s run round) i).stream o.early in
    omega (arith, a, b)

-- A turn hears of a proxy at home what was taken of it before the round
pub home_hears : (cut : Bool) (s : Session) (marks : Marks) (run : Run) (round : RoundSeen) (i : ℕ) (t : TurnMade s marks run round) → i < length run.tracks → LegalRound cut s marks run round → Foreseen (told_at (after_round s run round) i).stream
    → IsQuiet (told_at run i).stream.shape (server_list (told_at run i).stream) → is_home (track_at run.normal.tracks i).holder ≡ true → RoundHears s marks run round i t
home_hears cut s marks run round i t low legal seen quiet home =
    let g : TrackKept = greeted_in run.normal t.turn i in
    let b : BlockTold = (told_at (before_turn s run round) i).stream in
    let is = home_is ((learnt t.by.outside).own i) (slot_reported (learnt t.by.outside) g) g (stays_home t.turn.ack run.normal.last (track_at run.normal.tracks i) home) in
    let own : ((learnt t.by.outside).own i).known.consumed ≡ min 9223372036854775807 (kept (listed b)).consumed = ap (λ (l : Learnt). (l.own i).known.consumed) t.sees in
    let o = over s run round i low in
    let early = early_quiet cut s marks run round i low legal seen quiet in
    let shape = ap (λ (x : BlockTold). x.shape) o.whole ∙ o.meeting.is_later.shape ∙ o.late.shape ∙ o.turn.shape in
    let opens : IsOpen b = record { none = calm_drops (server_list b) early.calm; unshut = ap (λ (k : Shape). (server_kept k (server_list b)).shut) (sym shape) ∙ early.unshut } in
    let consumed = open_consumed b opens in
    let more = early_taken s run round i low in
    omega (arith, is, own, consumed, more)
