use Rattle.std.proofs.Common.{map, sym}
use Rattle.std.proofs.lemmas.List.{length-map}
use Rattle.std.specs.String.{string_bytes}
use Rattle.tpol_bridge.proofs.NoRequest.{no_command-five}
use Rattle.tpol_bridge.proofs.request.request_of_words.Goals as goal

pub returns-in-len5-up : goal.returns-in-len5-up
returns-in-len5-up c =
    rw (← c.as_slice.ensures.value)
    (sym (no_command-five (map string_bytes c.as_slice.result.now) (rw length-map c.in-len5-up.len_at_least)))
