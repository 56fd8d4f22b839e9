-- The names of other crates that the proofs of this one cite, passed on from one place. Declares nothing.
pub use Rattle.af_base.specs.Roomy.{Roomy}
pub use Rattle.af_base.specs.declared.event.ClientCall.{ClientCall}
pub use Rattle.af_base.specs.declared.frame.Frame.{Frame}
pub use Rattle.af_cblk.specs.Sides.{Made, client_made}
pub use Rattle.af_client.specs.Order.{ClientState, IsClientOf}
pub use Rattle.af_runs.proofs.Basics.{answer-some, end_begun, halted_none}
pub use Rattle.af_runs.specs.ClientTurns.{AnswersOn, AreCalls, IsMade, IsWanted, LegalClientTurn, Side, Track, after_call, after_calls, answered, asked_by, called, commands_sent, is_of_commands, is_write, most_calls, released_by, side_of, wanted_of, with_call}
pub use Rattle.af_runs.specs.Clients.{Client, after_answer, asked_first, at_next_turn, begins, begun, is_active, is_stoppable, is_stopped, more, new_client, next_want, rest_of, rested, settled_in, state_in, wants_of}
pub use Rattle.af_runs.specs.Kept.{ClientKept, client_of}
pub use Rattle.af_runs.specs.declared.want.Want.{Want}
pub use Rattle.af_script.specs.declared.op.Op.{Op}
pub use Rattle.std.proofs.lemmas.Bool.{eqb-false, eqb-true, false≢true, ne_eqb, true≢false}
pub use Rattle.std.proofs.lemmas.List.{drop-map, length_push, take-map, take-take}
pub use Rattle.std.proofs.lemmas.List.Elements.{All-cons, All-head, All-nil, All-tail}
