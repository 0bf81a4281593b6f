-- the words of the messages
use Rattle.std.specs.Prelude.{ℕ, List, codes}
use Rattle.sv_base.specs.declared.kind.Kind.{Kind}
use Rattle.sv_base.specs.declared.kind.Kind.TheVariants.{BadCharacter, BadNumber, OpenComment, Unexpected, Unsupported, DuplicateName, UnknownName, NotConstant, BadRange, TooWide, Recursive, PortUnknown, PortTwice, InputOpen, InputDriven, TwoDrivers, Latch, ReadFirst, WrongAssign, ClockRead, ClockNotPort, ClockNotPlain, Cycle, TooMany, BadWrapper, TooLong, Absent}

-- the word that a message prints for a kind
abbrev pub text_of : Kind → List ℕ
text_of BadCharacter = codes "BadCharacter"
text_of BadNumber = codes "BadNumber"
text_of OpenComment = codes "OpenComment"
text_of Unexpected = codes "Unexpected"
text_of Unsupported = codes "Unsupported"
text_of DuplicateName = codes "DuplicateName"
text_of UnknownName = codes "UnknownName"
text_of NotConstant = codes "NotConstant"
text_of BadRange = codes "BadRange"
text_of TooWide = codes "TooWide"
text_of Recursive = codes "Recursive"
text_of PortUnknown = codes "PortUnknown"
text_of PortTwice = codes "PortTwice"
text_of InputOpen = codes "InputOpen"
text_of InputDriven = codes "InputDriven"
text_of TwoDrivers = codes "TwoDrivers"
text_of Latch = codes "Latch"
text_of ReadFirst = codes "ReadFirst"
text_of WrongAssign = codes "WrongAssign"
text_of ClockRead = codes "ClockRead"
text_of ClockNotPort = codes "ClockNotPort"
text_of ClockNotPlain = codes "ClockNotPlain"
text_of Cycle = codes "Cycle"
text_of TooMany = codes "TooMany"
text_of BadWrapper = codes "BadWrapper"
text_of TooLong = codes "TooLong"
text_of Absent = codes "Absent"
