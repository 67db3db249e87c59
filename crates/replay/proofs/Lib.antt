mod Reading
mod Planning
mod Shown
mod Spaced
