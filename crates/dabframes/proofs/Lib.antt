-- That a passage stays steady.
mod Passing
