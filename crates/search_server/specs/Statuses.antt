-- The statuses of the program: their numbers, and what each needs on any link.
use Rattle.std.specs.Prelude.{◌≢◌, ◌⊎◌, ℕ, ◌<◌}
use Rattle.outside_io.specs.Faults.{Rose}
use Rattle.search_server.specs.LinkState.{DiskState, LinkState}
use Rattle.search_server.specs.declared.status.Status.{Status}
use Rattle.search_server.specs.declared.status.Status.TheVariants.{Done, BadWords, ReadFault, WriteFault, DoorFault, DiskFault, Damaged, CutShort, BadHead, RequestsSpent, NoMemory}

abbrev pub number_of : Status → ℕ
number_of Done = 0
number_of BadWords = 2
number_of ReadFault = 3
number_of WriteFault = 4
number_of DoorFault = 5
number_of DiskFault = 6
number_of (Damaged disk place found) = 7
number_of (CutShort rest) = 8
number_of (BadHead kind number) = 9
number_of RequestsSpent = 10
number_of NoMemory = 11

-- no disk failed: what ends so may be followed by more from the same machine and the same disks
abbrev pub IsGoing : Status → Type 0
IsGoing status = status ≢ DiskFault

-- the program ends so on two disks only where a machine was opened there and no disk failed
abbrev pub HasOpened : Status → Type 0
HasOpened Done = Unit {0}
HasOpened BadWords = ⊥
HasOpened ReadFault = Unit {0}
HasOpened WriteFault = Unit {0}
HasOpened DoorFault = Unit {0}
HasOpened DiskFault = ⊥
HasOpened (Damaged disk place found) = ⊥
HasOpened (CutShort rest) = Unit {0}
HasOpened (BadHead kind number) = Unit {0}
HasOpened RequestsSpent = Unit {0}
HasOpened NoMemory = ⊥

-- the count of faults of one of the two disks rose
abbrev pub DiskRose : DiskState → DiskState → DiskState → DiskState → Type 0
DiskRose old_a old_b new_a new_b = Rose old_a.faults new_a.faults ⊎ Rose old_b.faults new_b.faults

-- A link ends so only with this cause, whether it tells its bytes or not.
abbrev pub IsCaused : LinkState → LinkState → Status → Type 0
IsCaused old new Done = Unit {0}
IsCaused old new BadWords = ⊥
IsCaused old new ReadFault = Rose old.read_faults new.read_faults
IsCaused old new WriteFault = Rose old.write_faults new.write_faults
IsCaused old new DoorFault = ⊥
IsCaused old new DiskFault = DiskRose old.disk_a old.disk_b new.disk_a new.disk_b
IsCaused old new (Damaged disk place found) = ⊥
IsCaused old new (CutShort rest) = 0 < rest
IsCaused old new (BadHead kind number) = Unit {0}
IsCaused old new RequestsSpent = Unit {0}
IsCaused old new NoMemory = Unit {0}
