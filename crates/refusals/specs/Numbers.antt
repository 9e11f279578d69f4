-- Refusals by their numbers.
use Rattle.std.specs.Prelude.{ℕ, Result, Ok, Err}
use Rattle.refusals.specs.declared.Refusal.{Refusal}
use Rattle.refusals.specs.declared.Refusal.TheVariants.{ImageLength, CapacityRange, MemoryShort, NoStore, ImageMismatch, TransactionRange, NotOpen, AlreadyOpen, TooManyOpen, TableRange, PayloadLong, Conflict, KeyExists, NotFound, Full, NumbersExhausted, CheckpointRunning, NoCheckpoint, LevelsExhausted, ImageFull, ReplyShort, BadHeader, BadDirectory, BadPage, IntervalEmpty, BadHours, BookingEmpty, Closed, LogFull, NoMark, BadLog}

-- the number of each, which a call answers to C and a program prints
abbrev pub number : Refusal → ℕ
number ImageLength = 1
number CapacityRange = 2
number MemoryShort = 3
number NoStore = 4
number ImageMismatch = 5
number TransactionRange = 6
number NotOpen = 7
number AlreadyOpen = 8
number TooManyOpen = 9
number TableRange = 10
number PayloadLong = 11
number Conflict = 12
number KeyExists = 13
number NotFound = 14
number Full = 15
number NumbersExhausted = 16
number CheckpointRunning = 17
number NoCheckpoint = 18
number LevelsExhausted = 19
number ImageFull = 20
number ReplyShort = 21
number BadHeader = 22
number BadDirectory = 23
number BadPage = 24
number IntervalEmpty = 25
number BadHours = 26
number BookingEmpty = 27
number Closed = 28
number LogFull = 29
number NoMark = 30
number BadLog = 31

-- the number of the refusal that a test answers, 0 if it passed
abbrev pub number_in : Result (Unit {0}) Refusal → ℕ
number_in (Ok u) = 0
number_in (Err e) = number e
