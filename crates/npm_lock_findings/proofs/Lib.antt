mod Flags
mod Safe
