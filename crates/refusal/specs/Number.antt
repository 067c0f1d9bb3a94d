-- The numbers of the refusals, in document 01's words.
use Rattle.std.specs.Prelude.{ℕ}
use Rattle.refusal.specs.declared.Refusal.{Refusal}
use Rattle.refusal.specs.declared.Refusal.TheVariants.{Sizes, NotWellFormed, NoRoot, SameRoot, LongSource, TooHigh, NotAligned, Permissions, FrameTooHigh, HeldWindow, NotMapped, NotUser, OnlyValid, MappedAlready, NoPoolFrame, TooFewFrames, TooFewTables, PageLeft}

abbrev pub number_of : Refusal → ℕ
number_of Sizes = 1  -- T is not 1 to 512, F is not 1 to 4,096, or a slice length isn't exactly theirs
number_of NotWellFormed = 2  -- not well formed
number_of NoRoot = 3  -- a named root isn't a root
number_of SameRoot = 4  -- child root equals parent
number_of LongSource = 5  -- `uvm_init` source of 4,096 bytes or more
number_of TooHigh = 6  -- a page or byte at or above 2^38, a size above 2^38, or an address helper's result outside 64 bits or level above 2
number_of NotAligned = 7  -- `uvm_unmap` va, or `uvm_copy` size, not a multiple of 4,096
number_of Permissions = 8  -- permissions above 1023
number_of FrameTooHigh = 9  -- a frame to be mapped lies at or above 2^56
number_of HeldWindow = 10  -- `map` names a frame in the held window, or an unmap without freeing meets a pool frame
number_of NotMapped = 11  -- a page needed is not mapped
number_of NotUser = 12  -- a page needed lacks U
number_of OnlyValid = 13  -- unmap meets flags exactly 1
number_of MappedAlready = 14  -- a target page is mapped already
number_of NoPoolFrame = 15  -- a page needed has no pool frame
number_of TooFewFrames = 16  -- more frames needed than free
number_of TooFewTables = 17  -- more tables needed than free
number_of PageLeft = 18  -- tree freed while a page is mapped
