-- The faults of a session, by those of its reader.
use Rattle.vab_exchanges.specs.declared.fault.ReadFault.{ReadFault}
use Rattle.vab_exchanges.specs.declared.fault.ReadFault.TheVariants as reads
use Rattle.vab_session.specs.declared.fault.SessionFault.{SessionFault}
use Rattle.vab_session.specs.declared.fault.SessionFault.TheVariants.{BadHello, TooLong, Overrun}
use Rattle.vab_session.specs.declared.fault.SessionFault.TheVariants.{Cut, Spent, Source}

abbrev pub fault_of_read : ReadFault → SessionFault
fault_of_read reads.BadHello = BadHello
fault_of_read (reads.TooLong length) = TooLong length
fault_of_read (reads.Overrun due came) = Overrun due came
fault_of_read (reads.Cut at) = Cut at
fault_of_read reads.Spent = Spent
fault_of_read reads.Source = Source
