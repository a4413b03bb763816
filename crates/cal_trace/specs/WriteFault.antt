-- Which fault the error of a writer is.
use Rattle.std.specs.declared.io.ErrorKind.{ErrorKind}
use Rattle.std.specs.declared.io.ErrorKind.TheVariants.{OutOfMemory}
use Rattle.cal_trace.specs.declared.write_fault.WriteFault.{WriteFault}
use Rattle.cal_trace.specs.declared.write_fault.WriteFault.TheVariants.{Write, Memory}

-- out of memory by its name, and Write for every other error
abbrev pub fault_of : ErrorKind → WriteFault
fault_of OutOfMemory = Memory
fault_of kind = Write
