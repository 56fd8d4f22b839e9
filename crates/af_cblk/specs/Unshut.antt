-- What a meeting with a lawful client shows of both proxies.
use Rattle.std.specs.Prelude.{◌≡◌, None, List}
use Rattle.af_base.specs.declared.event.ClientEvent.{ClientEvent}
use Rattle.af_base.specs.declared.event.ServerEvent.{ServerEvent}
use Rattle.af_model.specs.ClientCalls.{client_kept, IsClientList}
use Rattle.af_model.specs.ServerCalls.{server_kept, LooksInOrder}
use Rattle.af_model.specs.declared.shape.Shape.{Shape}

-- if the client's list is spelled by its calls, nothing in its list shut its proxy, and if the server's list is in order too, nothing in that shut the server's
abbrev pub NeitherShut : Shape → List ClientEvent → List ServerEvent → Type 0
NeitherShut k client server = IsClientList k.frames k.cells k.base client → ((client_kept k.frames k.base client).shut ≡ None) × (LooksInOrder k server → (server_kept k server).shut ≡ None)
