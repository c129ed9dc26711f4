-- What a packet asks for, as it was read.
use Rattle.std.specs.Prelude.{Result, Ok, Err}
use Rattle.vab_fbproto.specs.declared.request.BadCommand.{BadCommand}
use Rattle.vab_fbproto.specs.declared.request.Request.{Request}
use Rattle.vab_fbproto.specs.Requests.{Asked, asked_of}

-- what is asked for
abbrev pub asked_in : Result Request BadCommand → Result Asked BadCommand
asked_in (Ok request) = Ok (asked_of request)
asked_in (Err bad) = Err bad
