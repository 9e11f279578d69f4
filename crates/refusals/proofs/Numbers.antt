-- No refusal has the number 0, which stands for none; 29 is one refusal's alone.
use Rattle.std.specs.Prelude.{◌≡◌, ◌<◌}
use Rattle.std.proofs.Common.{refl}
use native.Mathlib.Omega.{arith}
use Rattle.refusals.specs.declared.Refusal.{Refusal}
use Rattle.refusals.specs.declared.Refusal.TheVariants.{ImageLength, CapacityRange, MemoryShort, NoStore, ImageMismatch, TransactionRange, NotOpen, AlreadyOpen, TooManyOpen, TableRange, PayloadLong, Conflict, KeyExists, NotFound, Full, NumbersExhausted, CheckpointRunning, NoCheckpoint, LevelsExhausted, ImageFull, ReplyShort, BadHeader, BadDirectory, BadPage, IntervalEmpty, BadHours, BookingEmpty, Closed, LogFull, NoMark, BadLog}
use Rattle.refusals.specs.Numbers.{number}

pub number_positive : (e : Refusal) → 0 < number e
number_positive ImageLength = omega arith
number_positive CapacityRange = omega arith
number_positive MemoryShort = omega arith
number_positive NoStore = omega arith
number_positive ImageMismatch = omega arith
number_positive TransactionRange = omega arith
number_positive NotOpen = omega arith
number_positive AlreadyOpen = omega arith
number_positive TooManyOpen = omega arith
number_positive TableRange = omega arith
number_positive PayloadLong = omega arith
number_positive Conflict = omega arith
number_positive KeyExists = omega arith
number_positive NotFound = omega arith
number_positive Full = omega arith
number_positive NumbersExhausted = omega arith
number_positive CheckpointRunning = omega arith
number_positive NoCheckpoint = omega arith
number_positive LevelsExhausted = omega arith
number_positive ImageFull = omega arith
number_positive ReplyShort = omega arith
number_positive BadHeader = omega arith
number_positive BadDirectory = omega arith
number_positive BadPage = omega arith
number_positive IntervalEmpty = omega arith
number_positive BadHours = omega arith
number_positive BookingEmpty = omega arith
number_positive Closed = omega arith
number_positive LogFull = omega arith
number_positive NoMark = omega arith
number_positive BadLog = omega arith

pub only_log_full : (e : Refusal) → number e ≡ 29 → e ≡ LogFull
only_log_full ImageLength e = absurd (omega (arith, e))
only_log_full CapacityRange e = absurd (omega (arith, e))
only_log_full MemoryShort e = absurd (omega (arith, e))
only_log_full NoStore e = absurd (omega (arith, e))
only_log_full ImageMismatch e = absurd (omega (arith, e))
only_log_full TransactionRange e = absurd (omega (arith, e))
only_log_full NotOpen e = absurd (omega (arith, e))
only_log_full AlreadyOpen e = absurd (omega (arith, e))
only_log_full TooManyOpen e = absurd (omega (arith, e))
only_log_full TableRange e = absurd (omega (arith, e))
only_log_full PayloadLong e = absurd (omega (arith, e))
only_log_full Conflict e = absurd (omega (arith, e))
only_log_full KeyExists e = absurd (omega (arith, e))
only_log_full NotFound e = absurd (omega (arith, e))
only_log_full Full e = absurd (omega (arith, e))
only_log_full NumbersExhausted e = absurd (omega (arith, e))
only_log_full CheckpointRunning e = absurd (omega (arith, e))
only_log_full NoCheckpoint e = absurd (omega (arith, e))
only_log_full LevelsExhausted e = absurd (omega (arith, e))
only_log_full ImageFull e = absurd (omega (arith, e))
only_log_full ReplyShort e = absurd (omega (arith, e))
only_log_full BadHeader e = absurd (omega (arith, e))
only_log_full BadDirectory e = absurd (omega (arith, e))
only_log_full BadPage e = absurd (omega (arith, e))
only_log_full IntervalEmpty e = absurd (omega (arith, e))
only_log_full BadHours e = absurd (omega (arith, e))
only_log_full BookingEmpty e = absurd (omega (arith, e))
only_log_full Closed e = absurd (omega (arith, e))
only_log_full LogFull e = refl
only_log_full NoMark e = absurd (omega (arith, e))
only_log_full BadLog e = absurd (omega (arith, e))
