-- What a report makes of a life: a table of cases, of which the first that applies is taken.
use Rattle.std.specs.Prelude.{ℕ, ◌-◌, Bool, true, false, not, List, [], ◌∷◌, ◌==◌, ◌&&◌, ◌||◌, nat_lt, nat_le, if◌then◌else◌}
use Rattle.af_life.specs.declared.state.LifeState.{LifeState}
use Rattle.af_life.specs.declared.state.LifeState.TheVariants.{Absent, Idle, Active, Pausing, Paused, Resuming, Stopping1, Stopping2, Stopped, Flushed}
use Rattle.af_life.specs.declared.track.Life.{Life}
use Rattle.af_life.specs.declared.track.Known.{Known}
use Rattle.af_life.specs.State.{is_among}

-- a row: when it applies, the life that it leaves, and whether the track is to be disabled
pub record Case : Type 0 where
  pub applies : Known → Life → Bool
  pub effect : Known → Life → Life
  pub tells : Known → Life → Bool

-- a row by which no track is disabled
abbrev pub case_row : (Known → Life → Bool) → (Known → Life → Life) → Case
case_row applies effect = record { applies = applies; effect = effect; tells = λ known life. false }

-- the life is in one of these states
abbrev pub among : List LifeState → Known → Life → Bool
among states known life = is_among states life.state

-- a stopping life of which all that was released before the stop is consumed
abbrev pub done_stopping : Known → Life → Bool
done_stopping known life = is_among (Stopping1 ∷ []) life.state && nat_le life.stop_at known.consumed

-- a member that plays
abbrev pub playing : Known → Life → Bool
playing known life = is_among (Active ∷ []) life.state && life.member

-- the life as it was
abbrev pub unchanged : Known → Life → Life
unchanged known life = life

-- the life in another state
abbrev pub moved_to : LifeState → Known → Life → Life
moved_to state known life = record life { state = state }

-- the life out of the mix
abbrev pub out_of_the_mix : Known → Life → Life
out_of_the_mix known life = record life { member = false }

-- the retries that are left: all 50 again if a look showed frames, and then one less, down to 0, if a look showed none
abbrev pub retries_after : Known → ℕ → ℕ
retries_after known retries =
    let granted = (if nat_lt 0 known.fulls || nat_lt 0 known.partials then 50 else retries) in
    if nat_lt 0 known.empties then granted - 1 else granted

-- an empty look left no retries
abbrev pub no_retries_left : Known → Life → Bool
no_retries_left known life = nat_lt 0 known.empties && (retries_after known life.retries == 0)

-- the life with the retries that are left, out of the mix if an empty look left none
abbrev pub counted : Known → Life → Life
counted known life =
    record life { retries = retries_after known life.retries; member = life.member && not (no_retries_left known life) }

-- the table: a block that was shut, a life that has ended, one that is draining, one that waits to, one that drained, a pause, a resumption, a member that plays, and the others
abbrev pub reports : List Case
reports =
    case_row (λ known life. known.shut) (λ known life. record life { ended = true; member = false })
    ∷ case_row (λ known life. life.ended) out_of_the_mix
    ∷ case_row done_stopping (λ known life. record life { state = Stopping2; drained = true })
    ∷ case_row (among (Stopping1 ∷ [])) unchanged
    ∷ case_row (among (Stopping2 ∷ [])) (λ known life. record life { state = Stopped; member = false })
    ∷ case_row (among (Pausing ∷ [])) (moved_to Paused)
    ∷ case_row (among (Resuming ∷ [])) (moved_to Active)
    ∷ record { applies = playing; effect = counted; tells = no_retries_left }
    ∷ case_row (among (Active ∷ [])) unchanged
    ∷ case_row (among (Idle ∷ Paused ∷ Stopped ∷ Flushed ∷ [])) out_of_the_mix
    ∷ case_row (among (Absent ∷ [])) unchanged
    ∷ []

-- the effect of the first row that applies
abbrev pub first_case_effect : List Case → Known → Life → Life
first_case_effect [] known life = life
first_case_effect (case_row ∷ rows) known life =
    if case_row.applies known life then case_row.effect known life else first_case_effect rows known life

-- whether the first row that applies disables the track
abbrev pub first_told : List Case → Known → Life → Bool
first_told [] known life = false
first_told (case_row ∷ rows) known life =
    if case_row.applies known life then case_row.tells known life else first_told rows known life

-- what a report makes of a life
unfoldable pub by_report : Known → Life → Life
by_report known life = first_case_effect reports known life

-- whether the track is to be disabled
unfoldable pub told_by_report : Known → Life → Bool
told_by_report known life = first_told reports known life

-- the block isn't shut, and the life has not ended
abbrev pub lives : Known → Life → Bool
lives known life = not known.shut && not life.ended

-- a member that plays has no retries left
unfoldable pub runs_dry : Known → Life → Bool
runs_dry known life = lives known life && (playing known life && no_retries_left known life)

-- a stopping life finds all consumed
unfoldable pub drains : Known → Life → Bool
drains known life = lives known life && done_stopping known life
