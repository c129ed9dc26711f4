use Rattle.std.proofs.Common.{rules}
use Rattle.vab_exceptions.specs.Header.{header_bytes}
use Rattle.vab_exceptions.proofs.header.encode_store_header.Goals as goal

pub returns-clause-bytes : goal.returns-clause-bytes
unfolding header_bytes
returns-clause-bytes c = search rules
