-- A client that can do its work goes on so.
use Rattle.std.proofs.Common.{◌≡◌, ℕ, ◌+◌, ◌<◌, ◌≤◌, ◌||◌, if◌then◌else◌, Bool, true, false, List, [], ◌∷◌, Some, None, All, drop, refl, ap, sym, ◌∙◌, subst, arith}
use Rattle.af_party.proofs.Common.{All-head, All-nil, Client, Op, Want, asked_first, client_of, new_client, next_want, rest_of}
use Rattle.af_model.specs.declared.shape.Shape.{Shape}
use Rattle.af_cblk.specs.Shape.{most_flushes}
use Rattle.af_runs.specs.declared.want.Want.TheVariants as want
use Rattle.af_party.specs.Asking.{CanMake}
use Rattle.af_party.specs.Parties.{PartyState}
use Rattle.af_party.specs.Works.{CanWork, IsFitting, IsFittingOp, flushes_due, flushes_to_come, frames_due, frames_to_come}
use Rattle.af_party.proofs.WorkLeft.{Left, LeftBy}

-- after so many frames were written and flushes asked for
pub work_on : (ops : List Op) (frames x y : ℕ) (p q : PartyState) → CanWork ops frames p
    → LeftBy p.stream.pass.part.shape.cells p.command.pass.part.shape.cells x y (client_of ops p.client) (client_of ops q.client)
    → q.stream.released ≡ p.stream.released + x → q.stream.flushes ≡ p.stream.flushes + y → q.stream.pass.part.shape ≡ p.stream.pass.part.shape → q.command.pass.part.shape ≡ p.command.pass.part.shape
    → q.calls.room ≡ p.calls.room → CanWork ops frames q
work_on ops frames x y p q can left written flushed stream command room =
    let fit = left.fits (can.due_fits, can.ops_fit) in
    let s = p.stream.pass.part.shape in let k = p.command.pass.part.shape in
    let flushes : q.stream.flushes + (flushes_due q.client.due + flushes_to_come (drop q.client.at ops)) ≤ most_flushes s.wrap = omega (arith, left.flushes, can.flushes, flushed) in
    record {
      file = omega (arith, left.frames, can.file, written);
      few_frames = can.few_frames;
      flushes = subst (λ (z : Shape). q.stream.flushes + (flushes_due q.client.due + flushes_to_come (drop q.client.at ops)) ≤ most_flushes z.wrap) (sym stream) flushes;
      due_fits = subst (λ (z : Shape × Shape). All (IsFitting z.0.cells z.1.cells) q.client.due) (λ i. (sym stream i, sym command i)) fit.0;
      ops_fit = subst (λ (z : Shape × Shape). All (IsFittingOp z.0.cells z.1.cells) (drop q.client.at ops)) (λ i. (sym stream i, sym command i)) fit.1;
      commands = (ap (λ (z : Shape). z.frames) command ∙ can.commands.0, ap (λ (z : Shape). z.base) command ∙ can.commands.1);
      room = room ∙ can.room;
    }

-- a client that has done nothing, on blocks of these sizes
pub work_new : (ops : List Op) (frames : ℕ) (p : PartyState) → client_of ops p.client ≡ new_client ops → frames_to_come ops ≤ frames → frames ≤ 4194304
    → flushes_to_come ops ≤ most_flushes p.stream.pass.part.shape.wrap → All (IsFittingOp p.stream.pass.part.shape.cells p.command.pass.part.shape.cells) ops
    → p.stream.released ≡ 0 → p.stream.flushes ≡ 0 → (p.command.pass.part.shape.frames ≡ 128) × (p.command.pass.part.shape.base ≡ 0) → p.calls.room ≡ 64 → CanWork ops frames p
work_new ops frames p new enough few flushes fit none never command room =
    let s = p.stream.pass.part.shape.cells in let k = p.command.pass.part.shape.cells in
    let P : Client → Type 0 = λ c. Left s k 0 0 [] ops c.due c.ops in
    let left : P (client_of ops p.client) = subst P (sym new) (record { frames = omega arith; flushes = omega arith; fits = λ h. h }) in
    let fits = left.fits (All-nil (IsFitting s k), fit) in
    record {
      file = omega (arith, left.frames, none);
      few_frames = few;
      flushes = omega (arith, left.flushes, never);
      due_fits = fits.0;
      ops_fit = fits.1;
      commands = command;
      room = room;
    }

-- nothing of what its work hangs on changed
pub work_kept : (ops : List Op) (frames : ℕ) (p q : PartyState) → CanWork ops frames p → q.client.due ≡ p.client.due → q.client.at ≡ p.client.at → q.stream.released ≡ p.stream.released → q.stream.flushes ≡ p.stream.flushes
    → q.stream.pass.part.shape ≡ p.stream.pass.part.shape → q.command.pass.part.shape ≡ p.command.pass.part.shape → q.calls.room ≡ p.calls.room → CanWork ops frames q
work_kept ops frames p q can due at released flushes stream command room =
    let s = p.stream.pass.part.shape.cells in let k = p.command.pass.part.shape.cells in
    let P : List Want × ℕ → Type 0 = λ x. Left s k 0 0 p.client.due (drop p.client.at ops) x.0 (drop x.1 ops) in
    let here : P (p.client.due, p.client.at) = record { frames = omega arith; flushes = omega arith; fits = λ h. h } in
    work_on ops frames 0 0 p q can (subst P (λ i. (sym due i, sym at i)) here) (omega (arith, released)) (omega (arith, flushes)) stream command room

-- a client that has ended can do its work
pub work_end : (ops : List Op) (frames : ℕ) (p : PartyState) → CanWork ops frames p → CanWork ops frames (record p { client = record p.client { ended = true } })
work_end ops frames p can = work_kept ops frames p (record p { client = record p.client { ended = true } }) can refl refl refl refl refl refl refl

-- ## What is wanted next

-- the want is one that a call does
abbrev pub IsCall : Want → Type 0
IsCall want.Rest = ⊥
IsCall _ = Unit {0}

asked-some : (wants : List Want) (w : Want) → asked_first wants ≡ Some w → (wants ≡ w ∷ rest_of wants) × IsCall w
asked-some [] w h = absurd (let e : ⊥ = cc in e)
asked-some (want.Rest ∷ wants) w h = absurd (let e : ⊥ = cc in e)
asked-some (v ∷ wants) w h =
    let same : v ≡ w = cc in
    (ap (λ (z : Want). z ∷ wants) same, subst IsCall same tt)

next-some : (b : Bool) (wants : List Want) (w : Want) → (if b then None else asked_first wants) ≡ Some w → (b ≡ false) × (wants ≡ w ∷ rest_of wants) × IsCall w
next-some true wants w h = absurd (let e : ⊥ = cc in e)
next-some false wants w h = let first = asked-some wants w h in (refl, first.0, first.1)

-- the want that comes next stands first, and is one that a call does
pub first_wanted : (c : Client) (w : Want) → next_want c ≡ Some w → (c.due ≡ w ∷ rest_of c.due) × IsCall w
first_wanted c w h = let found = next-some (c.waiting || c.ended) c.due w h in (found.1, found.2)

-- the client can make the first of its wants
can_first : (ops : List Op) (frames : ℕ) (p : PartyState) (w : Want) (wants : List Want) → CanWork ops frames p → p.client.due ≡ w ∷ wants → IsCall w
    → IsFitting p.stream.pass.part.shape.cells p.command.pass.part.shape.cells w → CanMake frames p w
can_first ops frames p (want.Write count) wants can is is_call fit = (fit.0, omega (arith, can.file, ap frames_due is), can.few_frames)
can_first ops frames p want.Flush wants can is is_call fit = omega (arith, can.flushes, ap flushes_due is)
can_first ops frames p (want.Gain left right) wants can is is_call fit = fit
can_first ops frames p (want.Poke false word value) wants can is is_call fit = fit
can_first ops frames p (want.Poke true word value) wants can is is_call fit = fit
can_first ops frames p want.Rest wants can is is_call fit = is_call
can_first ops frames p _ wants can is is_call fit = tt

pub can_next : (ops : List Op) (frames : ℕ) (p : PartyState) (w : Want) → CanWork ops frames p → next_want (client_of ops p.client) ≡ Some w → CanMake frames p w
can_next ops frames p w can h =
    let first = first_wanted (client_of ops p.client) w h in
    let s = p.stream.pass.part.shape.cells in let k = p.command.pass.part.shape.cells in
    can_first ops frames p w (rest_of p.client.due) can first.0 first.1 (All-head (IsFitting s k) w (rest_of p.client.due) (subst (All (IsFitting s k)) first.0 can.due_fits))
