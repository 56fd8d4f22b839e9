-- Each of the three ends may be sent to another thread.
use denote.Param.Send.{IsSend}
use Rattle.af_mixer_ends.specs.contracts.fast_end.FastEnd.{the_row as fast}
use Rattle.af_mixer_ends.specs.contracts.normal_end.NormalEnd.{the_row as normal}
use Rattle.af_mixer_ends.specs.contracts.track_end.TrackEnd.{the_row as track}
use Rattle.af_mixer_ends.proofs.fast_end.FastEnd.TheSendSync.{the_send as fast_crosses}
use Rattle.af_mixer_ends.proofs.normal_end.NormalEnd.TheSendSync.{the_send as normal_crosses}
use Rattle.af_mixer_ends.proofs.track_end.TrackEnd.TheSendSync.{the_send as track_crosses}

pub track_sends : IsSend track
track_sends = track_crosses

pub normal_sends : IsSend normal
normal_sends = normal_crosses

pub fast_sends : IsSend fast
fast_sends = fast_crosses
